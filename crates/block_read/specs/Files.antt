-- What is read of a block's file: pages, and parts of its bytes.
use Rattle.std.specs.Prelude.{◌≡◌, ℕ, ◌*◌, List, ◌++◌, take, drop, replicate}

-- The page of a file with that number, counted from 0. Past the file's end there are zeros.
abbrev pub page_of : List ℕ → ℕ → List ℕ
page_of bytes page = take 4096 (drop (page * 4096) bytes ++ replicate 4096 0)

-- The first so many bytes of a file's pages: those of the file, and zeros past its end.
abbrev pub first_bytes : ℕ → List ℕ → List ℕ
first_bytes length bytes = take length (bytes ++ replicate length 0)

-- So many pages of these bytes from that page on, or what is there of them.
abbrev pub part_of : ℕ → ℕ → List ℕ → List ℕ
part_of page pages bytes = take (4096 * pages) (drop (4096 * page) bytes)

-- the two have the same bytes in every file
abbrev pub SameFiles : (ℕ → List ℕ) → (ℕ → List ℕ) → Type 0
SameFiles old new = (file : ℕ) → new file ≡ old file
