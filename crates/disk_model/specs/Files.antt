-- The disk model for one file: what it held when it was last synced, what was changed since, and which bytes a crash
-- may leave of it.
use Rattle.std.specs.Prelude.{◌≡◌, ℕ, ◌+◌, ◌<◌, ◌≤◌, min, max, Bool, false, ◌&&◌, ◌||◌, List, [], ◌∷◌, ◌++◌, length, take, slice_index, nat_le, nat_lt}
use Rattle.std.specs.List.{list_any}
use Rattle.disk_model.specs.Bytes.{overwritten}
use Rattle.disk_model.specs.declared.change.Pending.{Pending}
use Rattle.disk_model.specs.declared.change.Pending.TheVariants.{Written, Shortened}

-- A file: its bytes at its last successful sync and now, the changes since that sync, and the least and the greatest
-- length since then, among them those of the cuts that failed.
pub record FileState : Type 0 where
  pub synced : List ℕ
  pub held : List ℕ
  pub pending : List Pending
  pub least : ℕ
  pub greatest : ℕ

-- the change leaves open which byte stands at this offset
abbrev pub frees : ℕ → Pending → Bool
frees offset (Written at len) = nat_le at offset && nat_lt offset (at + len)
frees offset (Shortened len) = nat_le len offset

-- the byte at this offset isn't that of the last sync for certain
abbrev pub is_free : FileState → ℕ → Bool
is_free file offset = nat_le (length file.synced) offset || list_any (frees offset) file.pending

-- a crash may leave these bytes of the file
pub record MayBeLeft (file : FileState) (bytes : List ℕ) : Type 0 where
  pub no_shorter : file.least ≤ length bytes
  pub no_longer : length bytes ≤ file.greatest
  pub same : (offset : ℕ) → offset < length bytes → is_free file offset ≡ false → slice_index bytes offset ≡ slice_index file.synced offset

-- What a file holds is one of the contents that a crash may leave, and so is what was last synced. What it holds reaches
-- as far as the bytes that are certain.
pub record IsSound (file : FileState) : Type 0 where
  pub stays : MayBeLeft file file.held
  pub returns : MayBeLeft file file.synced
  pub inside : (offset : ℕ) → is_free file offset ≡ false → offset < length file.held

-- a file just synced
abbrev pub settled : List ℕ → FileState
settled bytes = record { synced = bytes; held = bytes; pending = []; least = length bytes; greatest = length bytes }

-- these bytes were written
abbrev pub wrote : ℕ → List ℕ → FileState → FileState
wrote at bytes file = record {
  synced = file.synced;
  held = overwritten file.held at bytes;
  pending = file.pending ++ Written at (length bytes) ∷ [];
  least = file.least;
  greatest = max file.greatest (length (overwritten file.held at bytes));
}

-- a write of that many bytes failed
abbrev pub lost_write : ℕ → ℕ → FileState → FileState
lost_write at len file = record {
  synced = file.synced;
  held = file.held;
  pending = file.pending ++ Written at len ∷ [];
  least = file.least;
  greatest = file.greatest;
}

-- the file was cut to this length
abbrev pub cut_to : ℕ → FileState → FileState
cut_to len file = record {
  synced = file.synced;
  held = take len file.held;
  pending = file.pending ++ Shortened len ∷ [];
  least = min file.least len;
  greatest = max file.greatest len;
}

-- a cut to this length failed
abbrev pub lost_cut : ℕ → FileState → FileState
lost_cut len file = record {
  synced = file.synced;
  held = file.held;
  pending = file.pending ++ Shortened len ∷ [];
  least = min file.least len;
  greatest = max file.greatest len;
}

-- the file was synced
abbrev pub synced_now : FileState → FileState
synced_now file = settled file.held
