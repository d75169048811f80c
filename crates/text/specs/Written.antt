-- What a text leaves in what takes it, and what a length says of a text.
use Rattle.std.specs.Prelude.{◌≡◌, List, ◌++◌, ℕ, ◌+◌, ◌≤◌, length, take, drop}
use Rattle.rules.specs.Text.{text, decimal}

-- `text` was written from `at` up to `end`, and nothing else changed. (`long` follows from the others; a caller goes on by it.)
pub record Put (entry : List ℕ) (at : ℕ) (text exit : List ℕ) (end : ℕ) : Type 0 where
  pub room : end ≤ length entry
  pub ends : end ≡ at + length text
  pub long : length exit ≡ length entry
  pub written : exit ≡ take at entry ++ text ++ drop end entry

-- b is the sink a once it has taken a text: it is the text's length further, and goes as far as before
pub record Taken {S : Type 0} (at end : S → ℕ) (takes : S → List ℕ → S → Type 0) (a : S) (text : List ℕ) (b : S) : Type 0 where
  pub further : at b ≡ at a + length text
  pub as_far : end b ≡ end a
  pub whole : takes a text b

-- n is the length of a text, which is at most `limit`
pub record Long (text : List ℕ) (limit n : ℕ) : Type 0 where
  pub is : n ≡ length text
  pub most : n ≤ limit

-- a line that has a label, a number and no more
unfoldable pub single : List ℕ → ℕ → List ℕ
single label n = label ++ decimal n ++ text ",,\n"
