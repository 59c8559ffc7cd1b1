-- M1 to M12 and C-12's example hold: the table's test is computed, and what is computed is an equation for each row.
use mathlib.Core.Path.{◌≡◌, refl}
use mathlib.Core.Bool.{Bool, ◌&&◌}
use mathlib.Core.List.{List, ◌∷◌, Memᴰ}
use mathlib.Core.Option.{none}
use lib.ListN.{length}
use lib.Dec.{T}
use Rattle.meaning.specs.Basics.{all, same_bytes}
use Rattle.meaning.specs.Settings.{rooms_of, rooms_in_range, bytes_needed, settings_of, settings_in_range, lookup_of, entity_in_range, asd_or_grn_in_range, lookup_in_range, number_of, number_in_range, dialled_in_range}
use Rattle.meaning.specs.Filters.{filter_of, filter_in_range, fits_number, rank, compare_filters}
use Rattle.meaning.specs.Rules.{first_largest, weight, chosen_place, chosen}
use Rattle.meaning.specs.Actions.{value_of, actions_of, most_of, ca_in_range, content_in_range}
use Rattle.meaning.specs.Groups.{nothing_without_ca, one_format, format_stands, fpfx_first, one_x_action, precedence, is_backed, formatting_backed, groups_hold, fpfx_meets_prefix, cas_fit, fit}
use Rattle.meaning.specs.Conditioning.{stretch_of, value_from, conditioned_from}
use Rattle.meaning.specs.Services.{at_start, responded, unsuccessful, inprtg, rn_set, cdpnnp, asdlkup, grnlkup, cdial, carry_out, eight_places, value_to_send}
use Rattle.meaning.specs.Plan.{fresh, with_slot, with_rules}
use Rattle.meaning.specs.Answer.{refused, unserved, served, outgoing_class, formatted, after_services, answer_by, answer_with, answer_of}
use Rattle.meaning.specs.Reads.{conditioned_by}
use Rattle.meaning.specs.Calls.{body_length, opening_lines, add_set_lines, add_rule_lines, refusal, lacks_bytes, refusals_from, after}
use Rattle.meaning.specs.Examples.{MEMORY, Row, shown, table, Holds}
use Rattle.meaning.proofs.Tests.{and_left, and_right, same_bytes_lem}

row_holds : Row → Bool
row_holds r = same_bytes (refusals_from (lacks_bytes MEMORY) none r.calls) r.numbers && same_bytes (shown r.query r.calls) r.result

row_holds_lem : (r : Row) → T (row_holds r) → Holds r
unfolding row_holds
row_holds_lem r t =
    let ns = same_bytes (refusals_from (lacks_bytes MEMORY) none r.calls) r.numbers in
    let rs = same_bytes (shown r.query r.calls) r.result in
    record { numbers = same_bytes_lem _ _ (and_left ns rs t); result = same_bytes_lem _ _ (and_right ns rs t) }

every_row : (rs : List Row) → T (all row_holds rs) → (r : Row) → Memᴰ r rs → Holds r
every_row mathlib.Core.List.[] t r m = elim m [ ]
every_row (x ∷ xs) t r (Memᴰ.head e) = rw e (row_holds_lem x (and_left (row_holds x) (all row_holds xs) t))
every_row (x ∷ xs) t r (Memᴰ.tail m) = every_row xs (and_right (row_holds x) (all row_holds xs) t) r m

table_test : T (all row_holds table)
unfolding rooms_of rooms_in_range bytes_needed settings_of settings_in_range lookup_of entity_in_range asd_or_grn_in_range lookup_in_range number_of number_in_range dialled_in_range filter_of filter_in_range fits_number rank compare_filters first_largest weight chosen_place chosen value_of actions_of most_of ca_in_range content_in_range nothing_without_ca one_format format_stands fpfx_first one_x_action precedence is_backed formatting_backed groups_hold fpfx_meets_prefix cas_fit fit stretch_of value_from conditioned_from at_start responded unsuccessful inprtg rn_set cdpnnp asdlkup grnlkup cdial carry_out eight_places value_to_send fresh with_slot with_rules refused unserved served outgoing_class formatted after_services answer_by answer_with answer_of conditioned_by body_length opening_lines add_set_lines add_rule_lines refusal after row_holds table
table_test = tt

-- M1 to M12, and C-12's
pub rows : length table ≡ 13
unfolding table
rows = refl

-- every row of the table holds
pub marked_examples : (r : Row) → Memᴰ r table → Holds r
marked_examples = every_row table table_test
