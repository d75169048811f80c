-- What a batch's bytes lose and have left as a case is read. Assumes nothing.
use Rattle.std.proofs.Common.{◌≡◌, ℕ, ◌+◌, ◌-◌, ◌≤◌, ◌<◌, List, [], ◌∷◌, ◌++◌, None, Some, arith, length, take, min, slice_index, subst, refl, sym, ap, ◌∙◌, length-append, append-nil, take_all, length-take-le}
use Rattle.std.proofs.Math.Seq.{take-append_seam}
use Rattle.std.proofs.Math.ListN.{get_or-append}
use Rattle.std.specs.declared.option.Option.{Option}
use Rattle.std.specs.Io.KnownBytes.{Consumes, IsAtEnd}
use Rattle.std.proofs.KnownBytes.{Consumes-trans}
use Rattle.batch.specs.Batch.{number, Loses, EndsBefore, ReadsInto, Reads, NoCase}
use Rattle.batch.specs.declared.Case.{Case}
use Rattle.batch.specs.declared.Found.{Found}

-- so many lost, and then a part more, which was read into the front of a space
pub loses_more : (o a b : Option (List ℕ)) (done part n all : ℕ) (waste space : List ℕ) → Loses o a done → Consumes a b (take n space) → n ≤ length space → length space ≡ length (take part waste) → part ≤ length waste → part ≤ n → all ≡ done + part → Loses o b all
loses_more o a b done part n all waste space (bs, c, l) d within same fits full e =
    (bs ++ take n space, Consumes-trans o a b bs (take n space) c d, omega (arith, l, e, within, same, full, length-take-le part waste fits, length-take-le n space within, length-append bs (take n space)))

-- a number of the head is a number of the bytes that begin with it
number_front : (head ys : List ℕ) (at : ℕ) → at + 4 ≤ length head → number (head ++ ys) at ≡ number head at
unfolding number
number_front head ys at h =
    let e : (i : ℕ) → i < length head → slice_index (head ++ ys) i ≡ slice_index head i = λ i k. get_or-append head ys 0 i k in
    rw (e at (omega arith)) (rw (e (at + 1) (omega arith)) (rw (e (at + 2) (omega arith)) (rw (e (at + 3) (omega arith)) refl)))

-- an input at its end has less than any part that is wanted
pub ends_before : (b : Option (List ℕ)) (rest : ℕ) → IsAtEnd b → 0 < rest → EndsBefore b rest
ends_before None rest e h = tt
ends_before (Some zs) rest e h = omega (arith, ap length e)

-- a part that was read whole is what was lost
pub lost_whole : (o a : Option (List ℕ)) (n : ℕ) (xs : List ℕ) → length xs ≤ n → Consumes o a (take n xs) → Consumes o a xs
lost_whole o a n xs h c = subst (Consumes o a) (take_all n xs h) c

-- A space that took a file's first bytes, all of them or as many as it had room for, has as much of the file as it holds.
held : (kept room : ℕ) (xs after waste : List ℕ) → length xs ≡ kept → kept ≡ min (length (xs ++ waste)) room → take kept (xs ++ after) ≡ take room (xs ++ waste)
held kept room xs after [] l h =
    ap (λ n. take n (xs ++ after)) (sym l) ∙ take-append_seam xs after ∙ sym (append-nil xs) ∙ sym (take_all room (xs ++ []) (omega (arith, length-append xs [])))
held kept room xs after (w ∷ ws) l h =
    let full : kept ≡ room = omega (arith, length-append xs (w ∷ ws)) in
    ap (λ n. take n (xs ++ after)) (sym l) ∙ take-append_seam xs after ∙ sym (take-append_seam xs (w ∷ ws)) ∙ ap (λ n. take n (xs ++ (w ∷ ws))) (l ∙ full)

-- a head was read, and then m bytes into a part for `kept` bytes of a file of `size`
pub record Begun (o a b : Option (List ℕ)) (head part : List ℕ) (room size kept m : ℕ) : Type 0 where
  pub head_read : Consumes o a head
  pub head_long : length head ≡ 12
  pub is : size ≡ number head 0
  pub held : kept ≡ min size room
  pub part_long : length part ≡ kept
  pub part_read : Consumes a b (take m part)
  pub within : m ≤ length part

module _ {o a b : Option (List ℕ)} {head part : List ℕ} {room size kept m : ℕ} (p : Begun o a b head part room size kept m) where
  -- where the input ends within the file, there is no whole case
  no_case : (rest : ℕ) → EndsBefore b rest → m + rest ≤ size → NoCase o
  no_case rest e fits = go o a b p.head_read p.part_read e
    where
      go : (o a b : Option (List ℕ)) → Consumes o a head → Consumes a b (take m part) → EndsBefore b rest → NoCase o
      go None a b c d e = tt
      go (Some xs) None b c d e = absurd c
      go (Some xs) (Some ys) None c d e = absurd d
      go (Some xs) (Some ys) (Some zs) c d e =
          let same : number xs 0 ≡ number head 0 = ap (λ l. number l 0) c ∙ number_front head ys 0 (omega (arith, p.head_long)) in
          let read = length-take-le m part p.within in
          λ long. omega (arith, ap length c, ap length d, length-append head ys, length-append (take m part) zs, same, p.head_long, p.is)

  pub cut_short : m < kept → (m < length part → IsAtEnd b) → NoCase o
  cut_short few end = no_case 1 (ends_before b 1 (end (omega (arith, p.part_long))) (omega arith)) (omega (arith, p.held))

  pub ended : EndsBefore b (size - kept) → NoCase o
  ended e = no_case (size - kept) e (omega (arith, p.within, p.part_long, p.held))

  -- what the part took of its file and what was passed over are the file, and with its head what was lost
  file_lost : (new : Option (List ℕ)) → kept ≤ m → (lost : Loses b new (size - kept)) → Consumes o new (head ++ (part ++ lost.0)) × (length (part ++ lost.0) ≡ size)
  file_lost new all lost =
      (Consumes-trans o a new head (part ++ lost.0) p.head_read (Consumes-trans a b new part lost.0 (lost_whole a b m part (omega (arith, p.part_long)) p.part_read) lost.1), omega (arith, length-append part lost.0, lost.2, p.part_long, p.held))

  -- the whole case: its head, what the part took of its file, and what was passed over
  pub read_whole : {new : Option (List ℕ)} {case : Case} (after : List ℕ) → kept ≤ m → Loses b new (size - kept) →
      case.file.now ≡ take kept (part ++ after) → case.entries ≡ number head 4 → case.bytes ≡ number head 8 → Reads o new room case
  read_whole after all lost file entries bytes =
      let whole = file_lost _ all lost in
      record {
        head = head;
        file = part ++ lost.0;
        lost = whole.0;
        head_long = p.head_long;
        file_long = whole.1 ∙ p.is;
        kept = file ∙ held kept room part after lost.0 p.part_long (omega (arith, whole.1, p.held));
        entries = entries;
        bytes = bytes;
      }

  -- the same, by how much of its file the space holds
  pub read_into : {new : Option (List ℕ)} {case : Found} (after : List ℕ) → kept ≤ m → Loses b new (size - kept) →
      length (part ++ after) ≡ room → case.kept ≡ kept → case.entries ≡ number head 4 → case.bytes ≡ number head 8 → ReadsInto o new (part ++ after) case
  read_into {case = case} after all lost long found entries bytes =
      let whole = file_lost _ all lost in
      let front : (rest : List ℕ) → take case.kept (part ++ rest) ≡ part = λ rest. ap (λ n. take n (part ++ rest)) (found ∙ sym p.part_long) ∙ take-append_seam part rest in
      record {
        head = head;
        file = part ++ lost.0;
        lost = whole.0;
        head_long = p.head_long;
        file_long = whole.1 ∙ p.is;
        kept = omega (arith, found, p.held, whole.1, long);
        begins = front after ∙ sym (front lost.0);
        entries = entries;
        bytes = bytes;
      }
