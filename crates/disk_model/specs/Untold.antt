-- What is said of a disk that tells no bytes: what it holds says nothing, and a crash at any moment may leave any image.
use Rattle.std.specs.Prelude.{ℕ, []}
use Rattle.disk_model.specs.Images.{Image}

abbrev pub untold : Image
untold = []

abbrev pub any_image : Image → Type 0
any_image image = Unit {0}

abbrev pub any_since : ℕ → Image → Type 0
any_since start image = Unit {0}
