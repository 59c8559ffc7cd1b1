-- The name is three digits, and so a text.
use Rattle.std.proofs.Common.{rules, ◌<◌, ◌∷◌, []}
use Rattle.std.proofs.lemmas.Str.{IsUtf8-from_ascii}
use Rattle.std.proofs.lemmas.Str.Ascii.{IsAscii-from_all}
use Rattle.std.specs.Prelude.{All}
use Rattle.examples.proofs.run_file.Goals as goal

pub unreachable-requires : goal.unreachable-requires
unreachable-requires c =
    let name = c.digit.result ∷ c.digit-2.result ∷ c.digit-3.result ∷ [] in
    let low : All (λ b. b < 128) name = search (rules, c.digit.ensures, c.digit-2.ensures, c.digit-3.ensures) in
    c.in_default.ensures.cases.0 (IsUtf8-from_ascii name (IsAscii-from_all name low))
