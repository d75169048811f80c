-- What holds at the head of each loop of `check`, and the ways on from there: out by a record's number, past a record, out of a list that is
-- done. Assumes nothing.
use Prim.Native.Nat.{ℕ, ◌+◌, ◌≤◌, ◌<◌, ◌^◌}
use mathlib.Core.Path.{◌≡◌, sym, ◌∙◌}
use mathlib.Core.List.{List, [], ◌∷◌}
use native.Mathlib.Omega.{arith}
use lib.ListN.{length}
use borrow.Author.Tests.{lt-ltb}
use Rattle.rules.specs.Numbered.{number_of}
use Rattle.rules.specs.declared.Breach.{Breach}
use Rattle.rules.specs.declared.Header.{Header}
use Rattle.rules.specs.declared.PointHead.{PointHead}
use Rattle.rules.specs.declared.MeterHead.{MeterHead}
use Rattle.rules.specs.Form.{form_of}
use Rattle.rules.specs.File.{header_at, bands_from}
use Rattle.rules.specs.Refusal.{header_rule, band_rule, point_rule, transfer_rule, condition_rule, meter_rule, read_rule, padding_number, first_or, file_refusal_in, file_refusal}
use Rattle.rules.proofs.Fields.{field_lt}
use Rattle.rules.proofs.Judged.{lacks_none}
use Rattle.rules.proofs.Numbers.{positive}
use Rattle.judges.specs.declared.ReadLimits.{ReadLimits}
use Rattle.format.proofs.Rest.{Kind, band_list, transfer_list, condition_list, read_list, meter_list, point_list, Head, State, head_at, past, rule, Rest, list, padding, onward, opened, rest_number, end, first_stop, first_go, list_done, list_turn, file_turn, padding_turn}

-- the refusal of the whole file is that of what is still to come, and the position is within the file
pub record At (b : List ℕ) (at : ℕ) (rest : Rest) : Type 0 where
  pub whole : file_refusal b ≡ rest_number b rest at
  pub short : length b ≤ 65536
  pub within : at ≤ end b

-- what is still to come within each list, from its next record on
abbrev pub points_left : Header → ℕ → ℕ → Rest
points_left h p lowest = list (point_list h.service) h.points p lowest padding

abbrev pub bands_left : Header → ℕ → ℕ → Rest
bands_left h i least = list band_list h.bands i least (points_left h 0 0)

abbrev pub meters_left : Header → ℕ → ℕ → ℕ → ℕ → Rest
meters_left h p lowest meters m = list (meter_list h.service) meters m tt (points_left h (p + 1) lowest)

abbrev pub conditions_left : Header → ℕ → ℕ → PointHead → ℕ → ℕ → Rest
conditions_left h p lowest point k from = list (condition_list h.service) point.conditions k from (meters_left h p lowest point.meters 0)

abbrev pub transfers_left : Header → ℕ → ℕ → PointHead → ℕ → ℕ → ℕ → Rest
transfers_left h p lowest point t from until = list transfer_list point.transfers t (from, until) (conditions_left h p lowest point 0 0)

abbrev pub reads_left : MeterHead → ℕ → ℕ → ReadLimits → Rest → Rest
reads_left meter reads r limits meters = list (read_list meter) reads r (limits.least, (limits.latest, limits.before)) meters

-- a record without a breach ends within the file
fits : (b : List ℕ) (kind : Kind) (next : ℕ) (s : State kind) (v : Head kind) → rule b kind next s v ≡ 0 → next ≤ end b
unfolding band_rule transfer_rule condition_rule read_rule meter_rule point_rule
fits b band_list next s v z = lacks_none _ _ _ z
fits b transfer_list next s v z = lacks_none _ _ _ z
fits b (condition_list service) next s v z = lacks_none _ _ _ z
fits b (read_list m) next s v z = lacks_none _ _ _ z
fits b (meter_list service) next s v z = lacks_none _ _ _ z
fits b (point_list service) next s v z = lacks_none _ _ _ z

-- a record's first field, which is the key of a list that ascends; by its width there is room for more
abbrev key : (kind : Kind) → Head kind → ℕ
key band_list v = v.size
key transfer_list v = v.day
key (condition_list service) v = v.day
key (read_list m) v = v.day
key (meter_list service) v = v.size
key (point_list service) v = v.number

small_key : (b : List ℕ) (kind : Kind) (at : ℕ) → key kind (head_at b kind at) < 2 ^ 32
small_key b band_list at = omega (arith, field_lt b at 16)
small_key b transfer_list at = omega (arith, field_lt b at 16)
small_key b (condition_list service) at = omega (arith, field_lt b at 16)
small_key b (read_list m) at = omega (arith, field_lt b at 16)
small_key b (meter_list service) at = omega (arith, field_lt b at 16)
small_key b (point_list service) at = field_lt b at 32

-- a record of a list, read and judged
module _ {b : List ℕ} {kind : Kind} {n i at : ℕ} {s : State kind} {rest : Rest} {v : Head kind} {next : ℕ}
    (a : At b at (list kind n i s rest)) (l : i < n) (f : (v ≡ head_at b kind at) × (next ≡ past kind at)) where
  judged : {number : ℕ} → number ≡ rule b kind next s v → file_refusal b ≡ first_or (number ∷ []) (rest_number b (onward kind n i s v rest) next)
  judged j = rw (j, f.1, f.0) (a.whole ∙ list_turn b kind n i at s rest l)

  pub has_room : key kind v < 2 ^ 32
  has_room = rw f.0 (small_key b kind at)

  pub stops : (breach : Breach) → number_of breach ≡ rule b kind next s v → number_of breach ≡ file_refusal b
  stops breach j = sym (judged j ∙ first_stop _ _ (positive breach))

  pub goes_on : 0 ≡ rule b kind next s v → At b next (onward kind n i s v rest)
  goes_on j = record { whole = judged j ∙ first_go _; short = a.short; within = fits b kind next s v (sym j) }

-- a list that is done
pub ends : {b : List ℕ} {kind : Kind} {n i at : ℕ} {s : State kind} {rest : Rest} → At b at (list kind n i s rest) → n ≤ i → At b at rest
ends {b} {kind} {n} {i} {at} {s} {rest} a l = record { whole = a.whole ∙ list_done b kind n i at s rest l; short = a.short; within = a.within }

-- ---- before and after the lists

pub too_long : (b : List ℕ) → 65536 < length b → 1 ≡ file_refusal b
unfolding file_refusal_in
too_long b h = simp (lt-ltb _ _ h)

module _ (b : List ℕ) {v : Header} {next : ℕ} (short : length b ≤ 65536) (f : (v ≡ header_at b) × (next ≡ bands_from b)) where
  judged_header : {number : ℕ} → number ≡ header_rule (form_of v.version) (end b) next v → file_refusal b ≡ first_or (number ∷ []) (rest_number b (opened v) next)
  judged_header j = rw (j, f.1, f.0) (file_turn b short)

  pub header_stops : (breach : Breach) → number_of breach ≡ header_rule (form_of v.version) (end b) next v → number_of breach ≡ file_refusal b
  header_stops breach j = sym (judged_header j ∙ first_stop _ _ (positive breach))

  pub opens : 0 ≡ header_rule (form_of v.version) (end b) next v → At b next (opened v)
  unfolding header_rule
  opens j = record { whole = judged_header j ∙ first_go _; short = short; within = lacks_none (end b) next _ (sym j) }

pub file_ends : {b : List ℕ} {at number : ℕ} → At b at padding → number ≡ padding_number b at → number ≡ file_refusal b
file_ends {b} {at} a e = e ∙ sym (a.whole ∙ padding_turn b at)
