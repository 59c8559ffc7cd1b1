-- Field by field.
use native.Mathlib.Omega.{arith}
use Rattle.charging.proofs.Ranges.{district_out, seconds_out, billed_decides}
use Rattle.charging.proofs.head_in_range.Goals as goal

pub word-requires : goal.word-requires
word-requires c = omega (arith, c.requires)

pub returns-then-word-ge-DISTRICTS : goal.returns-then-word-ge-DISTRICTS
returns-then-word-ge-DISTRICTS c = district_out c.args.body.now _ c.word.ensures.is c.if-word-ge-DISTRICTS.true

pub quad-requires : goal.quad-requires
quad-requires c = omega (arith, c.requires)

pub returns-then-quad-gt-SECONDS_LIMIT : goal.returns-then-quad-gt-SECONDS_LIMIT
returns-then-quad-gt-SECONDS_LIMIT c = seconds_out c.args.body.now _ c.word.ensures.is c.if-word-ge-DISTRICTS.false _ c.quad.ensures.is c.if-quad-gt-SECONDS_LIMIT.true

pub quad-requires-2 : goal.quad-requires-2
quad-requires-2 c = omega (arith, c.requires)

pub returns : goal.returns
returns c = billed_decides c.args.body.now _ c.word.ensures.is c.if-word-ge-DISTRICTS.false _ _ c.quad.ensures.is c.if-quad-gt-SECONDS_LIMIT.false c.quad-2.ensures.is
