-- The header is cleared, and the mark, the rooms and the settings are copied to their places.
use Rattle.plan.proofs.EditLaws.{header_written}
use Rattle.plan.proofs.write_header.Goals as goal

pub returns : goal.returns
returns c = header_written c.args.header.now c.clear.new.s c.copy.new.to c.copy-2.new.to c.copy-3.new.to c.args.rooms.now
    c.args.settings.now c.requires.0 c.requires.1 c.requires.2 c.clear.ensures c.copy.ensures c.copy-2.ensures c.copy-3.ensures
