-- Bytes written from a place on: what the bytes are after it, and the place after them.
use Rattle.std.specs.Prelude.{◌≡◌, ℕ, ◌+◌, List, length}
use Rattle.std.proofs.lemmas.List.Edits.{sets}

pub record Put (l : List ℕ) (place : ℕ) (t : List ℕ) (l' : List ℕ) (r : ℕ) : Type 0 where
  pub next : r ≡ place + length t
  pub same : l' ≡ sets l place t
