-- What a step gives out is new: file numbers, which are given out once, and the numbers of pins and jobs.
use Rattle.std.specs.Prelude.{◌≡◌, ℕ, ◌<◌, ◌≤◌, true, false, List, [], ◌∷◌}
use Rattle.store_model.specs.State.{State, is_among, open_files}
use Rattle.store_model.specs.Event.{Reply}
use Rattle.store_model.specs.Holds.{Hold, own_files}
use Rattle.store_model.specs.Holds.Hold.{OpenLook, OpenFlush, OpenCompact}

-- given out between one state and another
pub record IsNewFile (file : ℕ) (u u' : State) : Type 0 where
  pub above : u.next_file ≤ file
  pub below : file < u'.next_file

-- The next file number never falls, and what is given out lies from the old one on and below the new one. So no file is given
-- out by two steps.
pub record GivesNewFiles (u : State) (reply : Reply) (u' : State) : Type 0 where
  pub rises : u.next_file ≤ u'.next_file
  -- the file that a job which begins is to write
  pub own : (file : ℕ) → is_among file (own_files reply) ≡ true → IsNewFile file u u'
  -- what an open job has, a flush's new segment too, and none had before
  pub jobs : (file : ℕ) → is_among file (open_files u') ≡ true → is_among file (open_files u) ≡ false → IsNewFile file u u'

-- the number of a hold's pin, where it has one
abbrev pub pin_of : Hold → List ℕ
pin_of (OpenLook look) = look.pin ∷ []
pin_of (OpenFlush job) = []
pin_of (OpenCompact job) = job.pin ∷ []

-- the number of its job, where it is one
abbrev pub job_of : Hold → List ℕ
job_of (OpenLook look) = []
job_of (OpenFlush job) = job.number ∷ []
job_of (OpenCompact job) = job.number ∷ []

-- the two share neither a pin's number nor a job's
pub record AreApart (one other : Hold) : Type 0 where
  pub pins : (n : ℕ) → is_among n (pin_of one) ≡ true → is_among n (pin_of other) ≡ false
  pub jobs : (n : ℕ) → is_among n (job_of one) ≡ true → is_among n (job_of other) ≡ false
