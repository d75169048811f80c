-- Which form a file is read by: version 1 as document 01 has it, version 2 by its wider count, and any other version is breach 3. Assumes nothing.
use Prim.Native.Nat.{ℕ, ◌*◌, ◌≤◌}
use mathlib.Core.Bool.{Bool, true, false, cond}
use mathlib.Core.Path.{◌≡◌, refl, sym, ap, ◌∙◌}
use mathlib.Core.Logic.{◌⊎◌, inl, inr}
use mathlib.Core.List.{List}
use native.Mathlib.Omega.{arith}
use lib.Dec.{eqb}
use lib.ListN.{length}
use borrow.Author.Tests.{le-ltb, eq-eqb, ne_eqb}
use Rattle.std.proofs.lemmas.Bool.{true_from_ne_false}
use Rattle.std.proofs.Math.Bool.{and-false}
use Rattle.rules.specs.declared.Form.{Form}
use Rattle.rules.specs.Form.{form1, form2, form_of, version_at, form_at}
use Rattle.rules.specs.File.{header_at, file_header, bands_at, point_at, after_point, decode_in, decode}
use Rattle.rules.specs.Refusal.{header_outside, header_rule, file_numbers, first_or, file_refusal_in, refusal_in, refusal}
use Rattle.rules.specs.Promises.{Accepted, ReadBy, HasHeader, CountTo, Versions}
use Rattle.rules.proofs.Positions.{length_records}
use Rattle.rules.proofs.Judged.{header_range}
use Rattle.rules.proofs.Kept.{accepted_good}

-- what is said of both forms is said of every file's
either_form : (P : Form → Type 0) → P form1 → P form2 → (version : ℕ) → P (form_of version)
unfolding form_of
either_form P p q version = pick (eqb version 1)
  where
    pick : (t : Bool) → P (cond t form1 form2)
    pick true = p
    pick false = q

pub most_points : (version : ℕ) → (form_of version).most_points ≤ 256
most_points = either_form (λ form. form.most_points ≤ 256) (omega arith) (omega arith)

pub count_bits : (version : ℕ) → (form_of version).count_bits ≤ 9
count_bits = either_form (λ form. form.count_bits ≤ 9) (omega arith) (omega arith)

-- A KNOWN VERSION is read, and refused, by its own form
read_by : (form : Form) (bytes : List ℕ) → form_at bytes ≡ form → ReadBy form bytes
read_by form bytes e = record { file = ap (λ form. decode_in form bytes) e; number = ap (λ form. refusal_in form bytes) e }

-- ANY OTHER VERSION is 3, where the header is there
another_version : (version : ℕ) → ¬ (version ≡ 1) → ¬ (version ≡ 2) → eqb version (form_of version).version ≡ false
unfolding form_of
another_version version one two = simp (ne_eqb version 1 one) (ne_eqb version 2 two)

-- a header has room in the file, by whichever form
has_room : (bytes : List ℕ) → HasHeader bytes → bands_at (form_at bytes) ≤ length bytes * 8
has_room bytes h =
    let bits = length bytes * 8 in
    either_form (λ form. bands_at form ≤ bits) (omega (arith, h.1)) (omega (arith, h.1)) (version_at bytes)

other_versions : (bytes : List ℕ) → HasHeader bytes → ¬ (version_at bytes ≡ 1) → ¬ (version_at bytes ≡ 2) → refusal bytes ≡ 3
unfolding refusal_in file_refusal_in file_numbers header_rule first_or decode_in
other_versions bytes h one two =
    let form = form_at bytes in
    simp (
      le-ltb 65536 (length bytes) h.0,
      le-ltb (length bytes * 8) (bands_at form) (has_room bytes h),
      another_version (version_at bytes) one two,
      and-false,
    )

-- A COUNT OUTSIDE ITS RANGE is 4
-- the file's version and how many points it has are what its header says
own_version : (bytes : List ℕ) → version_at bytes ≡ (decode bytes).version
unfolding decode_in
own_version bytes = refl

points_told : (bytes : List ℕ) → length (decode bytes).points ≡ (header_at bytes).points
unfolding decode_in
points_told bytes = length_records (point_at bytes) after_point (header_at bytes).points _

outside_count : (bytes : List ℕ) → ¬ CountTo (form_at bytes).most_points bytes → header_outside (form_at bytes) (file_header (decode bytes)) ≡ true
outside_count bytes out =
    let form = form_at bytes in
    let h = file_header (decode bytes) in
    true_from_ne_false (header_outside form h) (λ e. out (rw (points_told bytes) at ((header_range form h).0 e).2))

other_count : (form : Form) (bytes : List ℕ) → form_at bytes ≡ form → HasHeader bytes → (header_at bytes).mark ≡ 0x5753 →
    version_at bytes ≡ form.version → ¬ CountTo form.most_points bytes → refusal bytes ≡ 4
unfolding refusal_in file_refusal_in file_numbers header_rule first_or decode_in
other_count form bytes own h marked version out =
    simp (
      le-ltb 65536 (length bytes) h.0,
      le-ltb (length bytes * 8) (bands_at (form_at bytes)) (has_room bytes h),
      eq-eqb _ _ marked,
      eq-eqb _ _ (version ∙ sym (ap (λ form. form.version) own)),
      outside_count bytes (λ x. out (x.0, omega (arith, x.1, ap (λ form. form.most_points) own))),
    )

counts : (bytes : List ℕ) → HasHeader bytes → (header_at bytes).mark ≡ 0x5753 →
    ((version_at bytes ≡ 1) × ¬ CountTo 64 bytes) ⊎ ((version_at bytes ≡ 2) × ¬ CountTo 256 bytes) → refusal bytes ≡ 4
unfolding form_of
counts bytes h marked (inl (one, out)) = other_count form1 bytes (rw one refl) h marked one out
counts bytes h marked (inr (two, out)) = other_count form2 bytes (rw two refl) h marked two out

-- an accepted file has the version of the form that it is read by, and its count is within the form's range
known : (bytes : List ℕ) → Accepted bytes → ((version_at bytes ≡ 1) × CountTo 64 bytes) ⊎ ((version_at bytes ≡ 2) × CountTo 256 bytes)
known bytes a =
    let g = (accepted_good (form_at bytes) bytes a).header in
    let version = version_at bytes in
    either_form
    (λ form. version ≡ form.version → CountTo form.most_points bytes → ((version ≡ 1) × CountTo 64 bytes) ⊎ ((version ≡ 2) × CountTo 256 bytes))
    (λ one within. inl (one, within))
    (λ two within. inr (two, within))
    version
    (own_version bytes ∙ g.version)
    (rw (points_told bytes) at g.some_points, rw (points_told bytes) at g.few_points)

pub versions : Versions
unfolding form_of
versions =
    record {
      first = λ bytes e. read_by form1 bytes (rw e);
      second = λ bytes e. read_by form2 bytes (rw e);
      moved = (refl, refl);
      known = known;
      others = other_versions;
      counts = counts;
    }
