-- What the trait says of writes and cuts holds of a disk that tells nothing.
use Rattle.std.proofs.Common.{ℕ, List, refl}
use Rattle.disk_model.specs.Images.{bytes_of, OnFile}
use Rattle.disk_model.specs.Bytes.{Torn, HalfCut}
use Rattle.disk_model.specs.Crash.{Follows}
use Rattle.disk_model.specs.Untold.{any_image}
use Rattle.disk_model.proofs.Passing.{torn_same, cut_same}

-- any image comes from itself by a change that may change nothing
any_follows : (file : ℕ) (step : List ℕ → List ℕ → Type 0) → ((bytes : List ℕ) → step bytes bytes) → Follows (OnFile file step) any_image any_image
any_follows file step same image left = (image, left, record { besides = λ other differs. refl; changed = same (bytes_of image file) })

pub any_torn : (file at count : ℕ) → Follows (OnFile file (Torn at count)) any_image any_image
any_torn file at count = any_follows file (Torn at count) (torn_same at count)

pub any_cut : (file len : ℕ) → Follows (OnFile file (HalfCut len)) any_image any_image
any_cut file len = any_follows file (HalfCut len) (cut_same len)
