use Rattle.std.proofs.Common.{◌≡◌, ℕ, List, Option, sym, ◌∙◌, ap, subst, arith, take}
use Rattle.std.specs.List.{Contains, flat_map}
use Rattle.std.proofs.lemmas.List.{take_all}
use Rattle.store_files.specs.Pins.{files_in}
use Rattle.store_files.proofs.PinNumbers.{named_all, named_only}
use Rattle.store_files.proofs.pins.pinned_files.Goals as goal

pub returns-clause-all : goal.returns-clause-all
returns-clause-all c =
    let pins = c.args.pins.now in
    let whole : take c.loop-pin.pin-index pins ≡ pins = take_all c.loop-pin.pin-index pins (omega (arith, c.loop-pin-test.false)) in
    let are : c.loop-pin.files.items ≡ flat_map files_in pins = c.loop-pin.invariant ∙ ap (λ (l : List (Option (List ℕ))). flat_map files_in l) whole in
    λ number file inside. subst (λ (l : List ℕ). Contains l file) (sym are) (named_all pins number file inside)

pub returns-clause-only : goal.returns-clause-only
returns-clause-only c =
    let pins = c.args.pins.now in
    let whole : take c.loop-pin.pin-index pins ≡ pins = take_all c.loop-pin.pin-index pins (omega (arith, c.loop-pin-test.false)) in
    let are : c.loop-pin.files.items ≡ flat_map files_in pins = c.loop-pin.invariant ∙ ap (λ (l : List (Option (List ℕ))). flat_map files_in l) whole in
    λ file inside. named_only pins file (subst (λ (l : List ℕ). Contains l file) are inside)
