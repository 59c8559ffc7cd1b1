-- The number over the first two bytes, and the content copied behind them.
use Rattle.reads.proofs.SetReads.{content_written}
use Rattle.reads.proofs.write_content.Goals as goal

pub returns : goal.returns
returns c = content_written c.args.out.now c.put_word.new.b c.copy.new.to c.args.content.now c.args.set.0 c.requires.0 c.requires.1 c.put_word.ensures c.copy.ensures
