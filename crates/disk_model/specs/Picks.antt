-- The images that a disk in memory gives.
use Rattle.std.specs.Prelude.{ℕ, ◌+◌, ◌-◌, ◌*◌, ◌/◌, ◌%◌, ◌^◌, ◌||◌, nat_le, List, map, slice_index, if◌then◌else◌, ◌==◌}
use Rattle.std.specs.List.{range_with_len}
use Rattle.disk_model.specs.Images.{Image}
use Rattle.disk_model.specs.Files.{FileState, is_free}
use Rattle.disk_model.specs.History.{Files}

-- the file at this length, with these bytes at each offset that isn't certain
abbrev pub filled : FileState → (ℕ → ℕ) → ℕ → List ℕ
filled file byte len =
    map (λ offset. if is_free file offset then byte offset else slice_index file.synced offset) (range_with_len 0 len)

-- a number that looks random, the same for the same seed
abbrev pub mixed : ℕ → ℕ
mixed seed = (seed * 11400714819323198485 % 2 ^ 64) / 2 ^ 32

-- what was synced, what is held, or some other byte
abbrev pub mixed_byte : ℕ → ℕ → ℕ → ℕ
mixed_byte synced held seed =
    if seed % 4 == 0 then synced else (if seed % 4 == 3 then seed / 4 % 256 else held)

-- the least length, the greatest one, or one between
abbrev pub mixed_length : ℕ → ℕ → ℕ → ℕ
mixed_length least greatest seed =
    if nat_le greatest least || seed % 4 == 0 then least
    else (if seed % 4 == 3 then least + seed / 4 % (greatest - least) else greatest)

-- pick 2 takes the greatest length and pick 3 the least one
abbrev pub picked_length : ℕ → ℕ → ℕ → ℕ → ℕ
picked_length pick least greatest seed =
    if pick == 2 then greatest else (if pick == 3 then least else mixed_length least greatest seed)

-- where a crash leaves a byte open, pick 2 puts 1 and pick 3 puts 0
abbrev pub free_byte : ℕ → ℕ → ℕ → ℕ → ℕ
free_byte pick synced held seed =
    if pick == 2 then 1 else (if pick == 3 then 0 else mixed_byte synced held (mixed seed))

-- the seed of a file
abbrev pub seed_of : ℕ → ℕ → ℕ
seed_of pick number = mixed ((pick + number * 2 ^ 32) % 2 ^ 64)

-- the byte that a pick gives at an offset of a file that isn't certain
abbrev pub byte_of : ℕ → ℕ → FileState → ℕ → ℕ
byte_of pick seed file offset =
    free_byte pick (slice_index file.synced offset) (slice_index file.held offset) ((seed + offset) % 2 ^ 64)

-- What a pick gives of the file of that number: 0 what was last synced, 1 what is held, 2 the greatest length with ones,
-- 3 the least length with zeros, and each other pick a mixture that its number determines.
abbrev pub picked : ℕ → ℕ → FileState → List ℕ
picked pick number file =
    if pick == 0 then file.synced
    else (if pick == 1 then file.held
    else filled file (byte_of pick (seed_of pick number) file) (picked_length pick file.least file.greatest (seed_of pick number)))

-- what it gives of each of the files
abbrev pub picked_image : ℕ → Files → Image
picked_image pick files = map (λ entry. (entry.0, picked pick entry.0 entry.1)) files
