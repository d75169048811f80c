-- A batch's bytes: cases one after the other, each of three numbers and a file.
use Rattle.std.specs.Prelude.{ℕ, zero, suc, Ok, ◌⊎◌, ◌+◌, ◌*◌, ◌^◌, ◌≤◌, ◌<◌, ◌≡◌, List, ◌++◌, length, take, min, slice_index, ⊤, None, Some}
use Rattle.std.specs.Io.KnownBytes.{Consumes}
use Rattle.std.specs.declared.option.Option.{Option}
use Rattle.std.specs.declared.result.Result.{Result}
use Rattle.batch.specs.declared.Case.{Case}
use Rattle.batch.specs.declared.Found.{Found}
use Rattle.batch.specs.declared.TheConstants.{CASES}

-- the number of the four bytes from a place on, most significant first
unfoldable pub number : List ℕ → ℕ → ℕ
number bytes at =
    slice_index bytes at * 2 ^ 24 + slice_index bytes (at + 1) * 2 ^ 16 + slice_index bytes (at + 2) * 2 ^ 8 + slice_index bytes (at + 3)

-- known bytes lose so many
abbrev pub Loses : Option (List ℕ) → Option (List ℕ) → ℕ → Type 0
Loses old new count = (bytes : List ℕ) × Consumes old new bytes × (length bytes ≡ count)

-- known bytes are fewer than so many
abbrev pub EndsBefore : Option (List ℕ) → ℕ → Type 0
EndsBefore None count = ⊤
EndsBefore (Some bytes) count = length bytes < count

-- A case was read into a space: its head and its file are what the input has lost, the space begins with the file, or with as much as it holds,
-- and the numbers are those of the head.
pub record ReadsInto (old new : Option (List ℕ)) (space : List ℕ) (case : Found) : Type 0 where
  pub head : List ℕ
  pub file : List ℕ
  pub lost : Consumes old new (head ++ file)
  pub head_long : length head ≡ 12
  pub file_long : length file ≡ number head 0
  pub kept : case.kept ≡ min (length file) (length space)
  pub begins : take case.kept space ≡ take case.kept file
  pub entries : case.entries ≡ number head 4
  pub bytes : case.bytes ≡ number head 8

-- A case was read: its head and its file are what the input has lost, its numbers are those of the head, and of its file it has as much as there
-- was room for.
pub record Reads (old new : Option (List ℕ)) (room : ℕ) (case : Case) : Type 0 where
  pub head : List ℕ
  pub file : List ℕ
  pub lost : Consumes old new (head ++ file)
  pub head_long : length head ≡ 12
  pub file_long : length file ≡ number head 0
  pub kept : case.file.now ≡ take room file
  pub entries : case.entries ≡ number head 4
  pub bytes : case.bytes ≡ number head 8

-- known bytes have no whole case
abbrev pub NoCase : Option (List ℕ) → Type 0
NoCase None = ⊤
NoCase (Some bytes) = 12 ≤ length bytes → length bytes < 12 + number bytes 0

module _ {F E : Type 0} (step : F → ℕ → Case → Result ⊤ E → F → Type 0) where
  -- so many cases were read one after the other, and each was answered, with its number from 0
  abbrev pub AnsweredSo : (old : Option (List ℕ)) (first : F) → ℕ → (new : Option (List ℕ)) (last : F) → Type 0
  AnsweredSo old first zero new last = (old ≡ new) × (first ≡ last)
  AnsweredSo old first (suc n) new last =
      (between : Option (List ℕ)) × (f : F) × (case : Case) × AnsweredSo old first n between f × Reads between new 65537 case × step f n case (Ok tt) last

  -- every case of the bytes was, or the first of them, where there are more than a batch may have
  abbrev pub Answered : Option (List ℕ) → F → F → Type 0
  Answered old first last = (count : ℕ) × (rest : Option (List ℕ)) × AnsweredSo old first count rest last × (NoCase rest ⊎ count ≡ CASES)
