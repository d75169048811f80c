-- The refusal as the loops of `check` find it: which lists of records are still to come from a position on, and what number they give. A list
-- that is done leaves what comes after it, and a record of a list either stops the check by its number or leaves the lists behind it.
-- Assumes nothing.
use Prim.Native.Nat.{ℕ, zero, suc, ◌+◌, ◌-◌, ◌*◌, ◌≤◌, ◌<◌}
use Prim.{Unit, tt}
use mathlib.Core.Path.{◌≡◌, refl, ◌∙◌, ap}
use mathlib.Core.List.{List, [], ◌∷◌, ◌++◌}
use native.Mathlib.Omega.{arith}
use native.Mathlib.Nat.{sub-zero}
use lib.ListN.{length}
use borrow.Author.Tests.{le-ltb}
use Rattle.rules.specs.declared.Service.{Service}
use Rattle.rules.specs.declared.Header.{Header}
use Rattle.rules.specs.declared.Band.{Band}
use Rattle.rules.specs.declared.PointHead.{PointHead}
use Rattle.rules.specs.declared.Transfer.{Transfer}
use Rattle.rules.specs.declared.Condition.{Condition}
use Rattle.rules.specs.declared.MeterHead.{MeterHead}
use Rattle.rules.specs.declared.Read.{Read}
use Rattle.rules.specs.Calendar.{no_day}
use Rattle.rules.specs.Form.{form_at}
use Rattle.rules.specs.File.{records, after, header_at, band_at, point_head_at, transfer_at, condition_at, meter_head_at, read_at, meter_at, point_at, decode_in, bands_from, after_band, transfers_from, after_transfer, after_condition, reads_from, after_read, after_meter, after_point}
use Rattle.rules.proofs.Positions.{length_records}
use Rattle.rules.specs.Refusal.{header_rule, band_rule, point_rule, transfer_rule, condition_rule, meter_rule, read_rule, band_numbers, transfer_numbers, condition_numbers, read_numbers, meter_numbers, point_numbers, file_numbers, padding_number, first_or, file_refusal_in, file_refusal}

-- the end of a file, in bits
abbrev pub end : List ℕ → ℕ
end b = length b * 8

-- the lists of a file, each with what its rule takes from the records around it: the service, or the meter
pub data Kind : Type 0 where
  band_list : Kind
  transfer_list : Kind
  condition_list : Service → Kind
  read_list : MeterHead → Kind
  meter_list : Service → Kind
  point_list : Service → Kind

-- a record of the list, before its own lists
abbrev pub Head : Kind → Type 0
Head band_list = Band
Head transfer_list = Transfer
Head (condition_list service) = Condition
Head (read_list m) = Read
Head (meter_list service) = MeterHead
Head (point_list service) = PointHead

-- what the rule of a list takes from the record before: the least key allowed, the latest day allowed and the value before
abbrev pub State : Kind → Type 0
State band_list = ℕ
State transfer_list = ℕ × ℕ
State (condition_list service) = ℕ
State (read_list m) = ℕ × (ℕ × ℕ)
State (meter_list service) = Unit {0}
State (point_list service) = ℕ

abbrev pub head_at : List ℕ → (kind : Kind) → ℕ → Head kind
head_at b band_list at = band_at b at
head_at b transfer_list at = transfer_at b at
head_at b (condition_list service) at = condition_at b at
head_at b (read_list m) at = read_at b at
head_at b (meter_list service) at = meter_head_at b at
head_at b (point_list service) at = point_head_at b at

-- the position after it
abbrev pub past : Kind → ℕ → ℕ
past band_list at = after_band at
past transfer_list at = after_transfer at
past (condition_list service) at = after_condition at
past (read_list m) at = after_read at
past (meter_list service) at = reads_from at
past (point_list service) at = transfers_from at

abbrev pub rule : List ℕ → (kind : Kind) → ℕ → State kind → Head kind → ℕ
rule b band_list next least v = band_rule (end b) next least v
rule b transfer_list next s v = transfer_rule (end b) next s.0 s.1 v
rule b (condition_list service) next least v = condition_rule (end b) next service least v
rule b (read_list m) next s v = read_rule (end b) next m s.0 s.1.0 s.1.1 v
rule b (meter_list service) next s v = meter_rule (end b) next service v
rule b (point_list service) next least v = point_rule (end b) next least v

-- what is still to come: a list of n records from its i-th on and then the rest, or the padding
pub data Rest : Type 0 where
  list : (kind : Kind) → ℕ → ℕ → State kind → Rest → Rest
  padding : Rest

-- past a record of a list: its own lists, the records behind it, and the rest
abbrev pub onward : (kind : Kind) → ℕ → ℕ → State kind → Head kind → Rest → Rest
onward band_list n i least v rest = list band_list n (i + 1) (v.size + 1) rest
onward transfer_list n i s v rest = list transfer_list n (i + 1) (v.day + 1, no_day) rest
onward (condition_list service) n i least v rest = list (condition_list service) n (i + 1) (v.day + 1) rest
onward (read_list m) n i s v rest = list (read_list m) n (i + 1) (v.day + 1, (v.day + 3660, v.value)) rest
onward (meter_list service) n i s v rest = list (read_list v) v.reads 0 (0, (no_day, 0)) (list (meter_list service) n (i + 1) tt rest)
onward (point_list service) n i least v rest =
    list transfer_list v.transfers 0 (0, v.connected)
    (list (condition_list service) v.conditions 0 0
    (list (meter_list service) v.meters 0 tt
    (list (point_list service) n (i + 1) (v.number + 1) rest)))

-- past the header
abbrev pub opened : Header → Rest
opened h = list band_list h.bands 0 0 (list (point_list h.service) h.points 0 0 padding)

-- the first number of k records from a position on, and else what comes after them
run : {A : Type 0} → (ℕ → A) → (ℕ → A → ℕ) → (List A → List ℕ) → ℕ → ℕ → (ℕ → ℕ) → ℕ
run here next numbers k at then = let xs = records here next k at in first_or (numbers xs) (then (after next at xs))

list_number : List ℕ → (kind : Kind) → ℕ → ℕ → State kind → (ℕ → ℕ) → ℕ
list_number b band_list k at least = run (band_at b) (λ at x. after_band at) (band_numbers (end b) at least) k at
list_number b transfer_list k at s = run (transfer_at b) (λ at x. after_transfer at) (transfer_numbers (end b) at s.0 s.1) k at
list_number b (condition_list service) k at least = run (condition_at b) (λ at x. after_condition at) (condition_numbers (end b) service at least) k at
list_number b (read_list m) k at s = run (read_at b) (λ at x. after_read at) (read_numbers (end b) m at s.0 s.1.0 s.1.1) k at
list_number b (meter_list service) k at s = run (meter_at b) after_meter (meter_numbers (end b) service at) k at
list_number b (point_list service) k at least = run (point_at b) after_point (point_numbers (end b) service at least) k at

pub rest_number : List ℕ → Rest → ℕ → ℕ
rest_number b padding at = padding_number b at
rest_number b (list kind n i s rest) at = list_number b kind (n - i) at s (rest_number b rest)

-- ---- numbers

-- a record's number first, and then what comes after it
pub first_stop : (n last : ℕ) → 0 < n → first_or (n ∷ []) last ≡ n
unfolding first_or
first_stop zero last h = absurd (omega arith)
first_stop (suc n) last h = refl

pub first_go : (last : ℕ) → first_or (0 ∷ []) last ≡ last
unfolding first_or
first_go last = refl

first_append : (xs ys : List ℕ) (last : ℕ) → first_or (xs ++ ys) last ≡ first_or xs (first_or ys last)
unfolding first_or
first_append [] ys last = refl
first_append (zero ∷ xs) ys last = first_append xs ys last
first_append (suc x ∷ xs) ys last = refl

-- ---- the turns of a loop

none : (b : List ℕ) (kind : Kind) (at : ℕ) (s : State kind) (then : ℕ → ℕ) → list_number b kind 0 at s then ≡ then at
unfolding list_number run records after first_or band_numbers transfer_numbers condition_numbers read_numbers meter_numbers point_numbers
none b band_list at s then = refl
none b transfer_list at s then = refl
none b (condition_list service) at s then = refl
none b (read_list m) at s then = refl
none b (meter_list service) at s then = refl
none b (point_list service) at s then = refl

pub list_done : (b : List ℕ) (kind : Kind) (n i at : ℕ) (s : State kind) (rest : Rest) → n ≤ i → rest_number b (list kind n i s rest) at ≡ rest_number b rest at
unfolding rest_number
list_done b kind n i at s rest h = let e : n - i ≡ 0 = omega arith in rw e (none b kind at s (rest_number b rest))

-- one record of the list, and then what is behind it
one : (b : List ℕ) (kind : Kind) (n i at : ℕ) (s : State kind) (rest : Rest)
    → list_number b kind (suc (n - (i + 1))) at s (rest_number b rest)
    ≡ first_or (rule b kind (past kind at) s (head_at b kind at) ∷ []) (rest_number b (onward kind n i s (head_at b kind at) rest) (past kind at))
unfolding rest_number list_number run records after band_numbers transfer_numbers condition_numbers read_numbers meter_numbers point_numbers point_at
one b band_list n i at s rest = first_append (_ ∷ []) _ _
one b transfer_list n i at s rest = first_append (_ ∷ []) _ _
one b (condition_list service) n i at s rest = first_append (_ ∷ []) _ _
one b (read_list m) n i at s rest = first_append (_ ∷ []) _ _
one b (meter_list service) n i at s rest =
    simp (length_records, sub-zero) (first_append (_ ∷ []) _ _ ∙ ap (first_or (_ ∷ [])) (first_append _ _ _))
one b (point_list service) n i at s rest =
    simp (length_records, sub-zero)
    (first_append (_ ∷ []) _ _ ∙ ap (first_or (_ ∷ [])) (first_append _ _ _ ∙ first_append _ _ _ ∙ first_append _ _ _))

pub list_turn : (b : List ℕ) (kind : Kind) (n i at : ℕ) (s : State kind) (rest : Rest) → i < n
    → rest_number b (list kind n i s rest) at
    ≡ first_or (rule b kind (past kind at) s (head_at b kind at) ∷ []) (rest_number b (onward kind n i s (head_at b kind at) rest) (past kind at))
unfolding rest_number
list_turn b kind n i at s rest h = let e : n - i ≡ suc (n - (i + 1)) = omega arith in rw e (one b kind n i at s rest)

-- ---- the whole file

pub file_turn : (b : List ℕ) → length b ≤ 65536
    → file_refusal b ≡ first_or (header_rule (form_at b) (end b) (bands_from b) (header_at b) ∷ []) (rest_number b (opened (header_at b)) (bands_from b))
unfolding file_refusal_in file_numbers decode_in rest_number list_number run
file_turn b short =
    simp (le-ltb 65536 (length b) short, length_records, sub-zero)
    (first_append (_ ∷ []) _ _ ∙ ap (first_or (_ ∷ [])) (first_append _ _ _))

pub padding_turn : (b : List ℕ) (at : ℕ) → rest_number b padding at ≡ padding_number b at
unfolding rest_number
padding_turn b at = refl
