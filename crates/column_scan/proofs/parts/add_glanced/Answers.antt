use Rattle.std.proofs.Common.{◌≡◌, ◌∙◌, Bool, true, false, not, refl, sym}
use Rattle.std.specs.Prelude.{IsTrue}
use Rattle.column_scan.specs.Candidates.{spans_of}
use Rattle.column_scan.specs.Sieves.{sifted_picks}
use Rattle.column_scan.proofs.Latest.{none_added, none_of_members}
use Rattle.column_scan.proofs.parts.add_glanced.Goals as goal

from_not : (b : Bool) → IsTrue (not b) → b ≡ false
from_not true is = cc
from_not false is = refl

pub returns-in_ok-some_meets-in-Some-clause-all : goal.returns-in_ok-some_meets-in-Some-clause-all
returns-in_ok-some_meets-in-Some-clause-all c = λ rows told all.
    none_added c.args.picks.now.items (sifted_picks c.args.sifter.now (spans_of rows))
    (none_of_members c.args.sifter.now (spans_of rows) (sym (c.in_ok-some_meets-in-Some.ensures.value rows told) ∙ from_not c.in_ok-some_meets-in-Some.field-0 all))
