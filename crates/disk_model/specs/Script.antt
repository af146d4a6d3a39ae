-- Which calls of a disk in memory are to fail: those that are listed, and all after some.
use Rattle.std.specs.Prelude.{ℕ, ◌+◌, ◌-◌, ◌^◌, min, Bool, false, Option, Some, None, if◌then◌else◌, ◌==◌}
use Rattle.std.specs.Option.{option_map}
use Rattle.std.specs.List.{list_any}
use Rattle.disk_model.specs.declared.script.Script.{Script}
use Rattle.disk_model.specs.declared.script.Fate.{Fate}
use Rattle.disk_model.specs.declared.script.Fate.TheVariants.{Passes, Listed, Stopped}

-- a count one higher, which saturates at the last value of its type
abbrev pub raised : ℕ → ℕ
raised count = min (count + 1) (2 ^ 64 - 1)

-- no call is left
abbrev pub is_spent : Option ℕ → Bool
is_spent None = false
is_spent (Some left) = left == 0

-- The next call is stopped where no call is left, else it is listed where its number is, counted from 1 since the list
-- was given.
abbrev pub fate_of : Script → Fate
fate_of script =
    if is_spent script.left then Stopped
    else (if list_any (λ number. number == raised script.made) script.listed then Listed else Passes)

-- one call on
abbrev pub counted : Script → Script
counted script = record {
  listed = script.listed;
  made = raised script.made;
  left = option_map (λ left. left - 1) script.left;
}
