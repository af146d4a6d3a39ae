-- How calls follow one another, and what page reads leave as it was.
use Rattle.std.proofs.Common.{ℕ, List, [], ◌∷◌, ◌++◌, Bool, true, false, append_assoc, refl, sym, ◌∙◌, ap, subst}
use Rattle.std.specs.Prelude.{IsTrue}
use Rattle.store_model.specs.Event.{Reply}
use Rattle.store_model.specs.Event.Event.{ReadPage}
use Rattle.store_model.specs.Event.{Reply as reply, Refusal as cause}
use Rattle.store_model.specs.Holds.{Hold}
use Rattle.store_state.specs.Given.{look_of}
use Rattle.store_state.specs.Made.{Call, AreMade, call}
use Rattle.store_state.specs.Meaning.{Meaning, Called, IsOpen}
use Rattle.store_state.specs.declared.jobs.Look.{Look}
use Rattle.store_state.proofs.HoldLaws.{stays_open}
use Rattle.query_fanout.specs.Queries.{AreReads, ReadsPages}
use Rattle.query_fanout.specs.Reading.{LookStays, PagesRead}

-- calls that are made after others
pub made_after : {P : Type 0} (meaning : Meaning P) (old mid new : P) (front back : List Call) → AreMade meaning old front mid → AreMade meaning mid back new
    → AreMade meaning old (front ++ back) new
made_after {P} meaning old mid new [] back h made = subst (λ (x : P). AreMade meaning x back new) h made
made_after meaning old mid new (c ∷ cs) back h made = (h.0, h.1, made_after meaning h.0 mid new cs back h.2 made)

are_after : (pin : ℕ) (files : List ℕ) (front back : List Call) → AreReads pin files front → AreReads pin files back → AreReads pin files (front ++ back)
are_after pin files [] back first then = then
are_after pin files (c ∷ cs) back first then = (first.0, are_after pin files cs back first.1 then)

-- page reads after others that are given
reads_after : (pin : ℕ) (files : List ℕ) (failed : Bool) (front back : List Call) → AreReads pin files front → ReadsPages pin files failed back
    → ReadsPages pin files failed (front ++ back)
reads_after pin files false front back first then = are_after pin files front back first then
reads_after pin files true front back first (reads, file, page, are, among, is) = (
  front ++ reads,
  file,
  page,
  are_after pin files front reads first are,
  among,
  ap (λ (cs : List Call). front ++ cs) is ∙ sym (append_assoc front reads (call (ReadPage pin file page) (reply.Refused cause.Fault) ∷ [])),
)

-- ---- what stays

stays_first : {P : Type 0} (meaning : Meaning P) (look : Hold) (port : P) → IsOpen meaning port look → LookStays meaning look port port
stays_first meaning look port is_open = record { is_open = is_open; telling = refl; bytes = λ told file among. refl }

stays_then : {P : Type 0} (meaning : Meaning P) (look : Hold) (a b c : P) → LookStays meaning look a b → LookStays meaning look b c → LookStays meaning look a c
stays_then meaning look a b c one two = record {
  is_open = two.is_open;
  telling = two.telling ∙ one.telling;
  bytes = λ told file among. two.bytes (subst IsTrue (sym one.telling) told) file among ∙ one.bytes told file among;
}

pub read_stays : {P : Type 0} (meaning : Meaning P) (look : Hold) (pin file page : ℕ) (reply : Reply) (old new : P) → IsOpen meaning old look
    → Called meaning old (ReadPage pin file page) reply new → LookStays meaning look old new
read_stays meaning look pin file page reply old new is_open called = record {
  is_open = stays_open meaning old new (ReadPage pin file page) reply look called is_open refl;
  telling = called.telling;
  bytes = λ told own among. called.bytes told look is_open refl own among;
}

-- ---- page reads of a look

pub pages_none : {P : Type 0} (meaning : Meaning P) (look : Look) (port : P) → IsOpen meaning port (look_of look) → PagesRead meaning look false port port
pages_none meaning look port is_open = record { calls = []; made = refl; are = tt; stays = stays_first meaning (look_of look) port is_open }

pub pages_then : {P : Type 0} (meaning : Meaning P) (look : Look) (failed : Bool) (a b c : P) → PagesRead meaning look false a b → PagesRead meaning look failed b c
    → PagesRead meaning look failed a c
pages_then meaning look failed a b c one two = record {
  calls = one.calls ++ two.calls;
  made = made_after meaning a b c one.calls two.calls one.made two.made;
  are = reads_after look.pin.number _ failed one.calls two.calls one.are two.are;
  stays = stays_then meaning (look_of look) a b c one.stays two.stays;
}
