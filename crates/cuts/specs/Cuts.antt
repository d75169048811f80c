-- A point's charged days, cut at its transfers and conditions.
use Rattle.std.specs.Prelude.{ℕ, ◌+◌, ◌-◌, ◌^◌, ◌≤◌, ◌<◌, ◌≡◌, cond, min, eqb, List, map, length}
use Rattle.rules.specs.declared.Condition.{Condition}
use Rattle.rules.specs.Lists.{Ascending, latest}
use Rattle.rules.specs.File.{transfer_bits, transfer_at, transfers, condition_bits, condition_at, conditions, after_conditions}
use Rattle.rules.specs.Charges.{no_condition}
use Rattle.providers.specs.Runs.{Reading}
use Rattle.records.specs.Conditions.{condition_of}
use Rattle.spans.specs.declared.Span.{Span}
use Rattle.spans.specs.Spans.{span_in, begin_in, end_in, Cut, Sum, sum_in}
use Rattle.rules.specs.declared.Transfer.{Transfer}
use Rattle.records.specs.declared.Groups.{Groups}
use Rattle.cuts.specs.declared.InForce.{InForce}

-- the provider of the day of entry i, from `start` on
abbrev pub owner_of : List ℕ → ℕ → ℕ → ℕ → ℕ → ℕ
owner_of file count at start i = latest (λ t. t.day) (λ t. t.provider) 0 (transfers file count at) (start + i)

-- by the transfer in force
abbrev pub transfer_in : List ℕ → ℕ → ℕ → ℕ → ℕ → Transfer
transfer_in file count at start i = latest (λ t. t.day) (λ t. t) (record { day = 0; provider = 0 }) (transfers file count at) (start + i)

-- and its condition
abbrev pub condition_in : List ℕ → ℕ → ℕ → ℕ → ℕ → Condition
condition_in file count at start i = latest (λ c. c.day) (λ c. c) no_condition (conditions file count at) (start + i)

-- conditions as an accepted file has them: their days ascend, and they end within the file
pub record SoundConditions (file : List ℕ) (count at : ℕ) : Type 0 where
  pub ascend : Ascending 0 (map (λ c. c.day) (conditions file count at))
  pub ends : after_conditions at (conditions file count at) < 2 ^ 32

-- DATED RECORDS of a width, by how far `record_at` has gone through them: the day of entry j has the record `all j` in force
abbrev pub Walked : {A R : Type 0} → (ℕ → A) → ℕ → (A → ℕ) → (R → A) → ℕ → ℕ → (ℕ → A) → ℕ → InForce R → Type 0
Walked here wide day seen start n all i w =
    Reading here (λ at x. at + wide) day (λ x. x) start n all i (seen w.now) (seen w.ahead) w.next.at w.left w.end

-- a record that came into force, and the one ahead as it stands at a position, of so many that are left with it
pub record ReadAhead {A R : Type 0} (here : ℕ → A) (wide : ℕ) (day : A → ℕ) (seen : R → A) (start n : ℕ) (came : R) (at count : ℕ) (r : InForce R) : Type 0 where
  pub now : r.now ≡ came
  pub ahead : seen r.ahead ≡ here at
  pub next : r.next.at ≡ at + wide
  pub left : r.left ≡ count
  pub end : r.end ≡ cond (eqb count 0) n (min (day (here at) - start) n)

-- the transfers
abbrev pub Owns : List ℕ → ℕ → ℕ → (ℕ → Transfer) → ℕ → InForce Transfer → Type 0
Owns file start n all i o = Walked (transfer_at file) transfer_bits (λ t. t.day) (λ t. t) start n all i o

-- the conditions
abbrev pub Held : List ℕ → ℕ → ℕ → (ℕ → Condition) → ℕ → InForce Groups → Type 0
Held file start n on i h = Walked (condition_at file) condition_bits (λ c. c.day) condition_of start n on i h

-- THE SPANS: the condition of the span at a place
abbrev pub span_condition : List Span → ℕ → Condition
span_condition spans s = condition_of (span_in spans s).groups

-- n days are cut into spans, each of one owner and one condition, without sums
pub record CutBy (spans : List Span) (n : ℕ) (owner : ℕ → ℕ) (on : ℕ → Condition) : Type 0 where
  pub few : length spans ≤ 72
  pub cut : Cut spans n (length spans)
  pub owners : (s i : ℕ) → s < length spans → begin_in spans s ≤ i → i < end_in spans s → (span_in spans s).provider ≡ owner i
  pub conditions : (s i : ℕ) → s < length spans → begin_in spans s ≤ i → i < end_in spans s → span_condition spans s ≡ on i
  pub clear : (q : Sum) (s : ℕ) → s < length spans → sum_in spans q s ≡ 0
