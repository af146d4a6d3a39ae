use Rattle.std.proofs.Common.{◌≡◌, ◌-◌, ℕ, List, Ok}
use Rattle.std.specs.Str.{bytes_eq}
use Rattle.column_scan.specs.StripeTexts.{texts_of}
use Rattle.column_scan.proofs.TextSteps.{AreLeft}
use Rattle.column_scan.proofs.texts.has_text.Given as goal

abbrev pub invariant-loop : goal.invariant-loop
invariant-loop l = (texts : List (List ℕ)) → texts_of l.fn.bytes ≡ Ok texts → AreLeft (λ x. bytes_eq x l.fn.text) texts (l.count - l.counter) l.reader
