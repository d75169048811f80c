-- Demand 1: the number of a file is that of its first breach in the listed order, and a file is accepted exactly when it has none. Assumes nothing.
use Prim.Native.Nat.{ℕ, zero, suc, ◌-◌, ◌≤◌, ◌<◌}
use Prim.{tt}
use mathlib.Core.Path.{◌≡◌, refl, sym, ap, ◌∙◌}
use mathlib.Core.Logic.{◌↔◌, ◌⊎◌, inl, inr}
use mathlib.Core.Option.{Option, none, some}
use mathlib.Core.List.{List, [], ◌∷◌, ◌++◌}
use mathlib.Core.Bool.{Bool, true, false, ◌||◌, not}
use native.Mathlib.Omega.{arith}
use lib.ListN.{length}
use lib.Dec.{ltb, leb, eqb}
use borrow.Author.Tests.{ltb-true, ltb-false}
use Rattle.rules.specs.declared.Form.{Form}
use Rattle.rules.specs.declared.Service.{Service}
use Rattle.rules.specs.declared.Band.{Band}
use Rattle.rules.specs.declared.PointHead.{PointHead}
use Rattle.rules.specs.declared.Transfer.{Transfer}
use Rattle.rules.specs.declared.Condition.{Condition}
use Rattle.rules.specs.declared.MeterHead.{MeterHead}
use Rattle.rules.specs.declared.Read.{Read}
use Rattle.rules.specs.Lists.{All, Some}
use Rattle.rules.specs.Field.{field}
use Rattle.rules.specs.File.{Meter, Point, File, meter_head, point_head, file_header, bands_at, after_band, after_bands, transfers_from, after_transfer, after_transfers, after_condition, after_conditions, reads_from, after_read, after_meter, after_point, decode_in}
use Rattle.rules.specs.Refusal.{when, band_numbers, transfer_numbers, condition_numbers, read_numbers, meter_numbers, point_numbers, file_numbers, padding_number, first_or, file_refusal_in, refusal_in}
use Rattle.rules.specs.Lawful.{Record, band, transfer, condition, read, in_turn, meter_records, point_records, file_records, width, Placed, placed, Rule, rules_of, Keeps, bits_of, records_end, Padded, SoundIn, providers_in, LawfulIn, Breaks, First, here, past, FirstRecord, within, beyond, NoBreach, FileBreachIn, FirstBreachIn}
use Rattle.rules.proofs.Placed.{ends, placed_append, bands_end, transfers_end, reads_end, inside, dated_end, inside_end, placed_file, points_last}
use Rattle.rules.proofs.Judged.{Tries, or, below, the_same, least_after, value_before, latest_transfer, latest_read, Judged, Outcome, keeps, breaks, outcome, header_gives, band_gives, point_gives, transfer_gives, condition_gives, meter_gives, read_gives}

-- THE NUMBERS OF RECORDS ONE AFTER THE OTHER
data Numbered (bits : ℕ) : List Placed → List ℕ → Type 1 where
  done : Numbered bits [] []
  more : {p : Placed} {ps : List Placed} {n : ℕ} {ns : List ℕ} → Judged 2 (rules_of bits p) n → Numbered bits ps ns → Numbered bits (p ∷ ps) (n ∷ ns)

join : {bits : ℕ} {ps qs : List Placed} {ns ms : List ℕ} → Numbered bits ps ns → Numbered bits qs ms → Numbered bits (ps ++ qs) (ns ++ ms)
join done rest = rest
join (more j js) rest = more j (join js rest)

-- EACH LIST
-- records after others, which end at a position
join_placed : {bits : ℕ} {ns ms : List ℕ} (at from : ℕ) (xs ys : List Record) → ends at xs ≡ from → Numbered bits (placed at xs) ns → Numbered bits (placed from ys) ms →
    Numbered bits (placed at (xs ++ ys)) (ns ++ ms)
join_placed at from xs ys e a b = rw (placed_append, e) (join a b)

module _ (bits : ℕ) where
  bands_numbered : (at : ℕ) (before : Option Band) (bs : List Band) → Numbered bits (placed at (in_turn band before bs)) (band_numbers bits at (least_after (λ b. b.size) before) bs)
  unfolding band_numbers in_turn placed width
  bands_numbered at before [] = done
  bands_numbered at before (b ∷ bs) = more (band_gives bits (after_band at) before b) (bands_numbered (after_band at) (some b) bs)

  transfers_numbered : (at connected : ℕ) (before : Option Transfer) (ts : List Transfer) →
      Numbered bits (placed at (in_turn (transfer connected) before ts)) (transfer_numbers bits at (least_after (λ t. t.day) before) (latest_transfer connected before) ts)
  unfolding transfer_numbers in_turn placed width
  transfers_numbered at connected before [] = done
  transfers_numbered at connected before (t ∷ ts) = more (transfer_gives bits (after_transfer at) connected before t) (transfers_numbered (after_transfer at) connected (some t) ts)

  conditions_numbered : (service : Service) (at : ℕ) (before : Option Condition) (cs : List Condition) →
      Numbered bits (placed at (in_turn (condition service) before cs)) (condition_numbers bits service at (least_after (λ c. c.day) before) cs)
  unfolding condition_numbers in_turn placed width
  conditions_numbered service at before [] = done
  conditions_numbered service at before (c ∷ cs) = more (condition_gives bits (after_condition at) service before c) (conditions_numbered service (after_condition at) (some c) cs)

  reads_numbered : (m : MeterHead) (at : ℕ) (before : Option Read) (rs : List Read) →
      Numbered bits (placed at (in_turn (read m) before rs)) (read_numbers bits m at (least_after (λ r. r.day) before) (latest_read before) (value_before before) rs)
  unfolding read_numbers in_turn placed width
  reads_numbered m at before [] = done
  reads_numbered m at before (r ∷ rs) = more (read_gives bits (after_read at) m before r) (reads_numbered m (after_read at) (some r) rs)

  meters_numbered : (service : Service) (at : ℕ) (ms : List Meter) → Numbered bits (placed at (meter_records service ms)) (meter_numbers bits service at ms)
  unfolding meter_numbers meter_records placed width
  meters_numbered service at [] = done
  meters_numbered service at (m ∷ ms) =
      let head = meter_head m in
      more (meter_gives bits (reads_from at) service head)
      (join_placed (reads_from at) (after_meter at m) (in_turn (read head) none m.reads) (meter_records service ms)
      (reads_end head (reads_from at) m.reads)
      (reads_numbered head (reads_from at) none m.reads)
      (meters_numbered service (after_meter at m) ms))

  inside_numbered : (service : Service) (at : ℕ) (p : Point) →
      Numbered bits (placed at (inside service p))
      (transfer_numbers bits at 0 p.supply.connected p.transfers
      ++ condition_numbers bits service (after_transfers at p.transfers) 0 p.supply.conditions
      ++ meter_numbers bits service (after_conditions (after_transfers at p.transfers) p.supply.conditions) p.supply.meters)
  inside_numbered service at p =
      let supply = p.supply in
      let conditions_from = after_transfers at p.transfers in
      let meters_from = after_conditions conditions_from supply.conditions in
      let ts = in_turn (transfer supply.connected) none p.transfers in
      let cs = in_turn (condition service) none supply.conditions in
      join_placed at meters_from (ts ++ cs) (meter_records service supply.meters) (dated_end service at p)
      (join_placed at conditions_from ts cs (transfers_end supply.connected at p.transfers)
      (transfers_numbered at supply.connected none p.transfers)
      (conditions_numbered service conditions_from none supply.conditions))
      (meters_numbered service meters_from supply.meters)

  points_numbered : (service : Service) (at : ℕ) (before : Option PointHead) (ps : List Point) →
      Numbered bits (placed at (point_records service before ps)) (point_numbers bits service at (least_after (λ p. p.number) before) ps)
  unfolding point_numbers point_records placed width
  points_numbered service at before [] = done
  points_numbered service at before (p ∷ ps) =
      more (point_gives bits (transfers_from at) before (point_head p))
      (join_placed (transfers_from at) (after_point at p) (inside service p) (point_records service (some (point_head p)) ps) (inside_end service at p)
      (inside_numbered service (transfers_from at) p)
      (points_numbered service (after_point at p) (some (point_head p)) ps))

  file_numbered : (form : Form) (f : File) → Numbered bits (placed 0 (file_records form f)) (file_numbers form bits f)
  unfolding file_numbers
  file_numbered form f =
      let t = f.tariff in
      let from = bands_at form in
      rw (placed_file form f)
      (more (header_gives bits from form (file_header f))
      (join_placed from (after_bands from t.bands) (in_turn band none t.bands) (point_records t.service none f.points) (bands_end from t.bands)
      (bands_numbered from none t.bands)
      (points_numbered t.service (after_bands from t.bands) none f.points)))

-- THE FIRST NUMBER
-- the number is what is said of it, and nothing else is
abbrev pub Says : ℕ → (ℕ → Type 0) → Type 0
Says v Then = (n : ℕ) → (v ≡ n) ↔ Then n

pub none_says : Says 0 NoBreach
none_says n = (sym, sym)

-- a breach with a test of its own
pub when_says : (t : Bool) (number v : ℕ) {Breach : Type 0} {Then : ℕ → Type 0} → (t ≡ true → Breach) → (t ≡ false → ¬ Breach) → Says v Then → Says (when t number v) (First Breach number Then)
when_says true number v {Breach} {Then} is isn't says n = (λ e. here (is refl) (sym e), back)
  where
    back : First Breach number Then n → number ≡ n
    back (here b e) = sym e
    back (past nb x) = absurd (nb (is refl))
when_says false number v {Breach} {Then} is isn't says n = (λ e. past (isn't refl) ((says n).0 e), back)
  where
    back : First Breach number Then n → v ≡ n
    back (here b e) = absurd (isn't refl b)
    back (past nb x) = (says n).1 x

-- "over": more than a limit
pub over_says : (limit x number v : ℕ) {Then : ℕ → Type 0} → Says v Then → Says (when (ltb limit x) number v) (First (limit < x) number Then)
over_says limit x number v says = when_says (ltb limit x) number v (ltb-true limit x) (λ e over. omega (arith, ltb-false limit x e)) says

-- where a rule is broken not all are kept
breaks_not : {n : ℕ} {rules : List Rule} → Breaks rules n → ¬ All (λ rule. rule.Kept) rules
breaks_not {n} {rules} b k = go rules b.broken k
  where
    go : (rules : List Rule) → Some (λ rule. (rule.number ≡ n) × ¬ rule.Kept) rules → All (λ rule. rule.Kept) rules → ⊥
    go [] x k = elim x [ ]
    go (r ∷ rs) (inl x) k = x.1 k.0
    go (r ∷ rs) (inr x) k = go rs x k.1

-- and no two numbers are the least
breaks_once : {n m : ℕ} {rules : List Rule} → Breaks rules n → Breaks rules m → n ≤ m
breaks_once {n} {m} {rules} a b = go rules a.least b.broken
  where
    go : (rules : List Rule) → All (λ rule. ¬ rule.Kept → n ≤ rule.number) rules → Some (λ rule. (rule.number ≡ m) × ¬ rule.Kept) rules → n ≤ m
    go [] l x = elim x [ ]
    go (r ∷ rs) l (inl x) = let h = l.0 x.1 in omega (arith, x.0)
    go (r ∷ rs) l (inr x) = go rs l.1 x

-- the tests give it
breaks_judged : {n k : ℕ} {rules : List Rule} → Judged 2 rules k → Breaks rules n → (k ≡ n) × (2 ≤ n) × (n ≤ 11)
breaks_judged {n} {k} {rules} j b = go (outcome j)
  where
    go : Outcome 2 rules k → (k ≡ n) × (2 ≤ n) × (n ≤ 11)
    go (keeps z all) = absurd (breaks_not b all)
    go (breaks c low few) =
        let up = breaks_once b c in
        let down = breaks_once c b in
        (omega arith, omega arith, omega arith)

broken_number : (before : List Placed) (first : Placed) (later : List Placed) {bits n : ℕ} {ns : List ℕ} → Numbered bits (before ++ (first ∷ later)) ns → Breaks (rules_of bits first) n → (2 ≤ n) × (n ≤ 11)
broken_number [] first later (more j js) b = let x = breaks_judged j b in (x.1, x.2)
broken_number (p ∷ before) first later (more j js) b = broken_number before first later js b

module _ {bits : ℕ} (last : ℕ) {Then : ℕ → Type 0} (says : Says last Then) where
  -- what the tests give is what is said of the records: forth
  forth : {ps : List Placed} {ns : List ℕ} → Numbered bits ps ns → FirstRecord bits ps Then (first_or ns last)
  unfolding first_or
  forth done = beyond tt ((says last).0 refl)
  forth (more {p = p} {ps = ps} {n = n} {ns = ns} j js) = go n refl (outcome j) (forth js)
    where
      go : (k : ℕ) → n ≡ k → Outcome 2 (rules_of bits p) n → FirstRecord bits ps Then (first_or ns last) → FirstRecord bits (p ∷ ps) Then (first_or (k ∷ ns) last)
      go zero e (keeps z kept) (beyond all rest) = beyond (kept, all) rest
      go zero e (keeps z kept) (within b) = within (record { before = p ∷ b.before; first = b.first; later = b.later; order = ap (λ l. p ∷ l) b.order; kept = (kept, b.kept); breaks = b.breaks })
      go (suc k) e (keeps z kept) rest = absurd (omega arith)
      go zero e (breaks b low few) rest = absurd (omega arith)
      go (suc k) e (breaks b low few) rest = within (record { before = []; first = p; later = ps; order = refl; kept = tt; breaks = rw e at b })

  -- and back
  back_kept : {ps : List Placed} {ns : List ℕ} → Numbered bits ps ns → All (Keeps bits) ps → first_or ns last ≡ last
  unfolding first_or
  back_kept done all = refl
  back_kept (more {p = p} {n = n} {ns = ns} j js) all = go n (outcome j) (back_kept js all.1)
    where
      go : (k : ℕ) → Outcome 2 (rules_of bits p) k → first_or ns last ≡ last → first_or (k ∷ ns) last ≡ last
      go zero o rest = rest
      go (suc k) (keeps z kept) rest = absurd (omega arith)
      go (suc k) (breaks b low few) rest = absurd (breaks_not b all.0)

  back_broken : (before : List Placed) (first : Placed) (later : List Placed) {ns : List ℕ} {n : ℕ} → Numbered bits (before ++ (first ∷ later)) ns → All (Keeps bits) before →
      Breaks (rules_of bits first) n → first_or ns last ≡ n
  unfolding first_or
  back_broken [] first later {n = n} (more {n = k} {ns = ns} j js) kept b = let x = breaks_judged j b in go k x.0 x.1
    where
      go : (k : ℕ) → k ≡ n → 2 ≤ n → first_or (k ∷ ns) last ≡ n
      go zero e two = absurd (omega arith)
      go (suc k) e two = e
  back_broken (p ∷ before) first later {n = n} (more {n = k} {ns = ns} j js) kept b = go k (outcome j) (back_broken before first later js kept.1 b)
    where
      go : (k : ℕ) → Outcome 2 (rules_of bits p) k → first_or ns last ≡ n → first_or (k ∷ ns) last ≡ n
      go zero o rest = rest
      go (suc k) (keeps z all) rest = absurd (omega arith)
      go (suc k) (breaks c low few) rest = absurd (breaks_not c kept.0)

  records_say : {ps : List Placed} {ns : List ℕ} → Numbered bits ps ns → Says (first_or ns last) (FirstRecord bits ps Then)
  records_say {ps} {ns} numbered n = (λ e. rw e at (forth numbered), back)
    where
      back : FirstRecord bits ps Then n → first_or ns last ≡ n
      back (beyond all rest) = back_kept numbered all ∙ (says n).1 rest
      back (within b) = back_broken b.before b.first b.later (rw b.order at numbered) b.kept b.breaks

-- A WHOLE FILE
-- a number that comes after others
first_when : (t : Bool) (k n then : ℕ) → first_or (when t (suc k) n ∷ []) then ≡ when t (suc k) (first_or (n ∷ []) then)
unfolding first_or
first_when true k n then = refl
first_when false k n then = refl

first_first : (ns : List ℕ) (n then : ℕ) → first_or (first_or ns n ∷ []) then ≡ first_or ns (first_or (n ∷ []) then)
unfolding first_or
first_first [] n then = refl
first_first (zero ∷ ns) n then = first_first ns n then
first_first (suc k ∷ ns) n then = refl

-- where nothing comes after it, a number is the first itself
first_alone : (n : ℕ) → first_or (n ∷ []) 0 ≡ n
unfolding first_or
first_alone zero = refl
first_alone (suc n) = refl

module _ (file : List ℕ) (end : ℕ) where
  abbrev left : ℕ
  left = bits_of file - end

  abbrev unpadded : Bool
  unpadded = leb 8 left || not (eqb (field file end left) 0)

  unpadded_tries : Tries unpadded (Padded file end)
  unpadded_tries =
      let f = or (below 8 left) (the_same (field file end left) 0) in
      (λ e. let x = f.0 e in record { short = x.0; zeros = x.1 }, λ p. f.1 (p.short, p.zeros))

  unpadded_true : unpadded ≡ true → ¬ Padded file end
  unpadded_true e p = let f = unpadded_tries.1 p in let z : ◌≡◌ {A = ℕ} 0 1 = cc in omega arith

  not_unpadded : ¬ ¬ Padded file end → Padded file end
  not_unpadded nn = go unpadded refl
    where
      go : (t : Bool) → unpadded ≡ t → Padded file end
      go true e = absurd (nn (unpadded_true e))
      go false e = unpadded_tries.0 e

  padding_says : (then : ℕ) {Then : ℕ → Type 0} → Says then Then →
      Says (first_or (padding_number file end ∷ []) then) (First (¬ Padded file end) 12 Then)
  unfolding padding_number first_or
  padding_says then says = rw (first_when unpadded 11 0 then) (when_says unpadded 12 then unpadded_true (λ e np. np (unpadded_tries.0 e)) says)

-- 0 is no breach's number
no_breach : {Clean : Type 0} {last : ℕ} → ((1 ≤ 0) × (0 ≤ last)) ⊎ (Clean × NoBreach 0) → Clean
no_breach (inl x) = absurd (omega (arith, x.0))
no_breach (inr x) = x.0

-- read by any form
module _ (form : Form) (file : List ℕ) where
  file_says : (then : ℕ) {Then : ℕ → Type 0} → Says then Then → Says (first_or (file_refusal_in form file ∷ []) then) (FileBreachIn form file Then)
  unfolding file_refusal_in
  file_says then says =
      let padded = padding_says file (records_end form file) then says in
      rw (first_when, first_first, ← points_last form file)
      (over_says 65536 (length file) 1 _ (records_say _ padded (file_numbered (bits_of file) form (decode_in form file))))

  -- 13 comes after 1 to 12
  refusal_then : (then : ℕ) →
      first_or (refusal_in form file ∷ []) then ≡ first_or (file_refusal_in form file ∷ []) (when (ltb 64 (providers_in form file)) 13 then)
  unfolding refusal_in first_or
  refusal_then then =
      let crowded = ltb 64 (providers_in form file) in
      let numbers = file_refusal_in form file ∷ [] in
      first_first numbers (when crowded 13 0) then ∙ ap (first_or numbers) (first_when crowded 12 0 then)

  -- 1 to 13, and what comes after them
  pub breach_says : (then : ℕ) {Then : ℕ → Type 0} → Says then Then → Says (first_or (refusal_in form file ∷ []) then) (FirstBreachIn form file Then)
  breach_says then says = rw (refusal_then then) (file_says _ (over_says 64 (providers_in form file) 13 then says))

  pub first_breach : Says (refusal_in form file) (FirstBreachIn form file NoBreach)
  first_breach = rw first_alone at (breach_says 0 none_says)

  -- WITHOUT A BREACH NOTHING IS REFUSED, AND NOTHING ELSE IS ACCEPTED
  -- a breach of 1 to 12 has its number, and without one the file is sound
  file_or : {Then : ℕ → Type 0} {n : ℕ} → FileBreachIn form file Then n → ((1 ≤ n) × (n ≤ 12)) ⊎ (SoundIn form file × Then n)
  file_or (here long e) = inl (omega arith, omega arith)
  file_or (past short (within b)) =
      let x = broken_number b.before b.first b.later (rw b.order at (file_numbered (bits_of file) form (decode_in form file))) b.breaks in
      inl (omega (arith, x.0), omega (arith, x.1))
  file_or (past short (beyond all (here unpadded e))) = inl (omega arith, omega arith)
  file_or (past short (beyond all (past padded then))) =
      inr (record { short = omega arith; records = all; padded = not_unpadded file (records_end form file) padded }, then)

  -- the same of 1 to 13
  pub breach_or : {Then : ℕ → Type 0} {n : ℕ} → FirstBreachIn form file Then n → ((1 ≤ n) × (n ≤ 13)) ⊎ (LawfulIn form file × Then n)
  breach_or {Then} {n} b = go (file_or b)
    where
      go : ((1 ≤ n) × (n ≤ 12)) ⊎ (SoundIn form file × First (64 < providers_in form file) 13 Then n) →
          ((1 ≤ n) × (n ≤ 13)) ⊎ (LawfulIn form file × Then n)
      go (inl x) = inl (x.0, omega (arith, x.1))
      go (inr (sound, here crowded e)) = inl (omega arith, omega arith)
      go (inr (sound, past few then)) = inr (record { sound = sound; few = omega arith }, then)

  pub lawful_past : {Then : ℕ → Type 0} {n : ℕ} → LawfulIn form file → Then n → FirstBreachIn form file Then n
  lawful_past l then =
      let s = l.sound in
      past (λ long. omega (arith, s.short)) (beyond s.records (past (λ unpadded. unpadded s.padded) (past (λ crowded. omega (arith, l.few)) then)))

  pub accepted_lawful : (refusal_in form file ≡ 0) ↔ LawfulIn form file
  accepted_lawful = (λ e. no_breach (breach_or ((first_breach 0).0 e)), λ l. (first_breach 0).1 (lawful_past l refl))

  -- none of 1 to 12
  pub accepted_sound : file_refusal_in form file ≡ 0 → SoundIn form file
  accepted_sound e = no_breach (file_or (((rw first_alone at (file_says 0 none_says)) 0).0 e))
