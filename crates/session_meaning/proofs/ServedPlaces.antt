-- Where calls of one client stand among those of all clients.
use Rattle.std.proofs.Common.{◌≡◌, ◌∙◌, ℕ, zero, suc, ◌+◌, ◌≤◌, ◌==◌, ◌||◌, Bool, true, false, List, [], ◌∷◌, ◌++◌, map, take, length, Ok, Err, ap, append_assoc, arith, eqb-true, refl, sym, subst}
use Rattle.client_scripts.specs.Scripts as by_script
use Rattle.client_scripts.specs.Served.{AreServed}
use Rattle.client_scripts.specs.declared.script.Answered.{Answered}
use Rattle.port_history.specs.Entries.{Entry, Legal, call_of, own}
use Rattle.session_text.specs.declared.reply.Reply.{Reply}
use Rattle.session_text.specs.Items.{Item}
use Rattle.store_model.specs.State.{is_among}
use Rattle.store_model.specs.Step.{Step}
use Rattle.store_state.specs.Made.{Call}
use Rattle.session_meaning.specs.Answering.{AreItemsAnswered, CallsLead, IsItemAnswered}
use Rattle.session_meaning.specs.At.{At}
use Rattle.session_meaning.specs.ServedReplies.{CallPlace, IsReplyTo, WasReplied}
use Rattle.session_meaning.specs.Serving.{EntriesLead, IsMade, Ran}

-- ---- all calls

-- They are legal from the first machine on.
pub led_legally : (told : Bool) (first last : At) (es : List Entry) → EntriesLead told first es last → Legal first.faults first.machine es last.faults last.machine
led_legally told first last [] same = (ap (λ (at : At). at.faults) same, ap (λ (at : At). at.machine) same)
led_legally told first last (e ∷ es) (between, made, rest) = (
  between.machine,
  made.from,
  subst (λ (n : ℕ). first.faults ≤ n) (sym made.to) made.step.0,
  subst (λ (n : ℕ). Step first.faults n first.machine e.event e.reply between.machine) (sym made.to) made.step.1,
  subst (λ (n : ℕ). Legal n between.machine es last.faults last.machine) (sym made.to) (led_legally told between last es rest),
)

-- They are steps.
pub led_by_steps : (told : Bool) (first last : At) (es : List Entry) → EntriesLead told first es last → CallsLead first (map call_of es) last
led_by_steps told first last [] same = (ap (λ (at : At). at.faults) same, ap (λ (at : At). at.machine) same)
led_by_steps told first last (e ∷ es) (between, made, rest) =
    (between.faults, between.machine, made.step.2, made.step.1, led_by_steps told between last es rest)

-- ---- one of them

-- What stands at a place of the way.
record LedTo (told : Bool) (first last : At) (earlier : List Entry) (e : Entry) (later : List Entry) : Type 0 where
  before : At
  after : At
  to : EntriesLead told first earlier before
  made : IsMade told before e after
  from : EntriesLead told after later last

led_to : (told : Bool) (first last : At) (earlier : List Entry) (e : Entry) (later : List Entry) → EntriesLead told first (earlier ++ e ∷ later) last → LedTo told first last earlier e later
led_to told first last [] e later (between, made, rest) = record { before = first; after = between; to = refl; made = made; from = rest }
led_to told first last (x ∷ earlier) e later (between, made, rest) =
    let found = led_to told between last earlier e later rest in
    record { before = found.before; after = found.after; to = (between, made, found.to); made = found.made; from = found.from }

-- ---- one of those under some names

record SplitAt (names : List ℕ) (es : List Entry) (front : List Call) (c : Call) : Type 0 where
  earlier : List Entry
  entry : Entry
  later : List Entry
  is : es ≡ earlier ++ entry ∷ later
  inside : is_among entry.seat names ≡ true
  call : call_of entry ≡ c
  before : map call_of (own names earlier) ≡ front

own_in : (names : List ℕ) (e : Entry) (es : List Entry) → is_among e.seat names ≡ true → own names (e ∷ es) ≡ e ∷ own names es
own_in names e es is = rw is refl

own_out : (names : List ℕ) (e : Entry) (es : List Entry) → is_among e.seat names ≡ false → own names (e ∷ es) ≡ own names es
own_out names e es is = rw is refl

no_calls : (front back : List Call) (c : Call) → [] ≡ front ++ c ∷ back → ⊥
no_calls [] back c e = cc
no_calls (x ∷ front) back c e = cc

same_first : (a b : Call) (xs ys : List Call) → a ∷ xs ≡ b ∷ ys → (a ≡ b) × (xs ≡ ys)
same_first a b xs ys e = (cc, cc)

split : (names : List ℕ) (es : List Entry) (front back : List Call) (c : Call) → map call_of (own names es) ≡ front ++ c ∷ back → SplitAt names es front c
split names [] front back c is = absurd (no_calls front back c is)
split names (e ∷ es) front back c is = by_test (is_among e.seat names) refl (λ f h. split names es f back c h)
  where
    later_on : (f : List Call) → (found : SplitAt names es f c) → map call_of (own names (e ∷ found.earlier)) ≡ front → SplitAt names (e ∷ es) front c
    later_on f found those = record {
      earlier = e ∷ found.earlier;
      entry = found.entry;
      later = found.later;
      is = ap (λ (xs : List Entry). e ∷ xs) found.is;
      inside = found.inside;
      call = found.call;
      before = those;
    }

    by_test : (t : Bool) → is_among e.seat names ≡ t → ((f : List Call) → map call_of (own names es) ≡ f ++ c ∷ back → SplitAt names es f c) → SplitAt names (e ∷ es) front c
    by_test false out rest =
        let found = rest front (ap (map call_of) (sym (own_out names e es out)) ∙ is) in
        later_on front found (ap (map call_of) (own_out names e found.earlier out) ∙ found.before)
    by_test true inside rest = by_front front refl
      where
        here : call_of e ∷ map call_of (own names es) ≡ front ++ c ∷ back
        here = ap (map call_of) (sym (own_in names e es inside)) ∙ is

        by_front : (f : List Call) → front ≡ f → SplitAt names (e ∷ es) front c
        by_front [] none =
            let same = same_first (call_of e) c (map call_of (own names es)) back (here ∙ ap (λ (xs : List Call). xs ++ c ∷ back) none) in
            record { earlier = []; entry = e; later = es; is = refl; inside = inside; call = same.0; before = sym none }
        by_front (x ∷ xs) some =
            let same = same_first (call_of e) x (map call_of (own names es)) (xs ++ c ∷ back) (here ∙ ap (λ (ys : List Call). ys ++ c ∷ back) some) in
            let found = rest xs same.1 in
            later_on xs found
            (ap (map call_of) (own_in names e found.earlier inside) ∙ ap (λ (y : Call). y ∷ map call_of (own names found.earlier)) same.0
            ∙ ap (λ (ys : List Call). x ∷ ys) found.before ∙ sym some)

is_the_one : (seat client : ℕ) → is_among seat (client ∷ []) ≡ true → seat ≡ client
is_the_one seat client is = sym (eqb-true client seat (or_false (client == seat) ∙ is))
  where
    or_false : (b : Bool) → b ≡ (b || false)
    or_false true = refl
    or_false false = refl

-- One that goes on from where another ends.
led_on : (told : Bool) (first between last : At) (es later : List Entry) → EntriesLead told first es between → EntriesLead told between later last → EntriesLead told first (es ++ later) last
led_on told first between last [] later same rest = subst (λ (at : At). EntriesLead told at later last) same rest
led_on told first between last (e ∷ es) later (next, made, lead) rest = (next, made, led_on told next between last es later lead rest)

-- A call of a client that came before another one of its own, and the calls in between.
pub record EarlierPlace (told : Bool) (first : At) (entries : List Entry) (last : At) (client : ℕ) (asked : List Item) (got : List Reply) (front : List Call) (c : Call) (earlier : List Entry) (to : At) : Type 0 where
  pub place : CallPlace told first entries last client asked got front
  pub call : call_of place.entry ≡ c
  pub between : List Entry
  pub is_earlier : earlier ≡ place.earlier ++ place.entry ∷ between
  pub leads : EntriesLead told place.after between to

pub earlier_place : (told : Bool) (first last : At) (entries : List Entry) (client : ℕ) (asked : List Item) (got : List Reply) (front back : List Call) (c : Call)
    → (place : CallPlace told first entries last client asked got (front ++ c ∷ back)) → EarlierPlace told first entries last client asked got front c place.earlier place.before
earlier_place told first last entries client asked got front back c place =
    let found = split (client ∷ []) place.earlier (place.answers ++ front) back c (place.own_before ∙ sym (append_assoc place.answers front (c ∷ back))) in
    let at = led_to told first place.before found.earlier found.entry found.later (subst (λ (es : List Entry). EntriesLead told first es place.before) found.is place.to) in record {
      place = record {
        earlier = found.earlier;
        entry = found.entry;
        later = found.later ++ place.entry ∷ place.later;
        entries_are =
            place.entries_are ∙ ap (λ (es : List Entry). es ++ place.entry ∷ place.later) found.is
            ∙ append_assoc found.earlier (found.entry ∷ found.later) (place.entry ∷ place.later);
        its = is_the_one found.entry.seat client found.inside;
        answers = place.answers;
        asked_before = place.asked_before;
        own_before = found.before;
        before = at.before;
        after = at.after;
        to = at.to;
        made = at.made;
        from = led_on told at.after place.before last found.later (place.entry ∷ place.later) at.from (place.after, place.made, place.from);
      };
      call = found.call;
      between = found.later;
      is_earlier = found.is;
      leads = at.from;
    }

-- ---- a reply and its calls

pub as_item : (item : Item) (r : Reply) (calls : List Call) → by_script.IsItemAnswered item r calls → IsItemAnswered item r calls
as_item (Ok asked) r calls is = is
as_item (Err why) r calls is = is

pub as_answered : (items : List Item) (replies : List Reply) (calls : List Call) → by_script.AreItemsAnswered items replies calls → AreItemsAnswered items replies calls
as_answered [] replies calls are = are
as_answered (i ∷ items) [] calls are = absurd are
as_answered (i ∷ items) (r ∷ replies) calls (now, later, is, one, rest) = (now, later, is, as_item i r now one, as_answered items replies later rest)

-- Of a client's calls some came before those for this item.
record AnsweredBy (asked : List Item) (got : List Reply) (item : Item) (reply : Reply) (calls : List Call) : Type 0 where
  earlier : List Call
  mine : List Call
  later : List Call
  parts : calls ≡ earlier ++ (mine ++ later)
  before : AreItemsAnswered asked got earlier
  here : IsItemAnswered item reply mine

in_script : (items : List Item) (replies : List Reply) (asked : List Item) (got : List Reply) (item : Item) (reply : Reply) (calls : List Call)
    → by_script.AreItemsAnswered (take (length replies) items) replies calls → IsReplyTo items replies asked got item reply → AnsweredBy asked got item reply calls
in_script [] replies asked got item reply calls are this = absurd this
in_script (i ∷ items) [] asked got item reply calls are this = absurd this
in_script (i ∷ items) (r ∷ replies) [] [] item reply calls (now, later, is, one, rest) (same, also) = record {
  earlier = [];
  mine = now;
  later = later;
  parts = is;
  before = (refl, refl);
  here = subst (λ (x : Item). IsItemAnswered x reply now) same (subst (λ (x : Reply). IsItemAnswered i x now) also (as_item i r now one));
}
in_script (i ∷ items) (r ∷ replies) [] (g ∷ got) item reply calls are this = absurd this
in_script (i ∷ items) (r ∷ replies) (a ∷ asked) [] item reply calls are this = absurd this
in_script (i ∷ items) (r ∷ replies) (a ∷ asked) (g ∷ got) item reply calls (now, later, is, one, rest) (same, also, more) =
    let found = in_script items replies asked got item reply later rest more in record {
      earlier = now ++ found.earlier;
      mine = found.mine;
      later = found.later;
      parts = is ∙ ap (λ (cs : List Call). now ++ cs) found.parts ∙ sym (append_assoc now found.earlier (found.mine ++ found.later));
      before = (
        now,
        found.earlier,
        refl,
        subst (λ (x : Item). IsItemAnswered x g now) same (subst (λ (x : Reply). IsItemAnswered i x now) also (as_item i r now one)),
        found.before,
      );
      here = found.here;
    }

of_client : (number client : ℕ) (scripts : List (List Item)) (answers : List Answered) (entries : List Entry) (asked : List Item) (got : List Reply) (item : Item) (reply : Reply)
    → AreServed number scripts answers entries → WasReplied scripts answers client asked got item reply → AnsweredBy asked got item reply (map call_of (own ((number + client) ∷ []) entries))
of_client number client [] answers entries asked got item reply served this = absurd this
of_client number client (script ∷ scripts) [] entries asked got item reply served this = absurd this
of_client number zero (script ∷ scripts) (answered ∷ answers) entries asked got item reply served this =
    subst (λ (n : ℕ). AnsweredBy asked got item reply (map call_of (own (n ∷ []) entries))) (let e : number ≡ number + 0 = omega arith in e)
    (in_script script answered.replies.items asked got item reply (map call_of (own (number ∷ []) entries)) served.0.first this)
of_client number (suc client) (script ∷ scripts) (answered ∷ answers) entries asked got item reply served this =
    subst (λ (n : ℕ). AnsweredBy asked got item reply (map call_of (own (n ∷ []) entries))) (let e : (number + 1) + client ≡ number + suc client = omega arith in e)
    (of_client (number + 1) client scripts answers entries asked got item reply served.1 this)

module _ (told : Bool) (first last : At) (scripts : List (List Item)) (answers : List Answered) (entries : List Entry) (client : ℕ) (asked : List Item) (got : List Reply) (item : Item) (reply : Reply)
    (ran : Ran told first scripts answers entries last) (this : WasReplied scripts answers client asked got item reply) where
  -- The calls by which a client's item was answered.
  answered_by : AnsweredBy asked got item reply (map call_of (own (client ∷ []) entries))
  answered_by =
      subst (λ (n : ℕ). AnsweredBy asked got item reply (map call_of (own (n ∷ []) entries))) (let e : 0 + client ≡ client = omega arith in e)
      (of_client 0 client scripts answers entries asked got item reply ran.served this)

  pub mine : List Call
  mine = answered_by.mine

  pub is_answered : IsItemAnswered item reply mine
  unfolding mine answered_by
  is_answered = answered_by.here

  -- One of them has its place among all calls.
  pub place_of : (front back : List Call) (c : Call) → mine ≡ front ++ c ∷ back → (place : CallPlace told first entries last client asked got front) × (call_of place.entry ≡ c)
  unfolding mine answered_by
  place_of front back c are =
      let a = answered_by in
      let parts : map call_of (own (client ∷ []) entries) ≡ (a.earlier ++ front) ++ c ∷ (back ++ a.later) =
      a.parts ∙ ap (λ (cs : List Call). a.earlier ++ (cs ++ a.later)) are
      ∙ ap (λ (cs : List Call). a.earlier ++ cs) (append_assoc front (c ∷ back) a.later)
      ∙ sym (append_assoc a.earlier front (c ∷ (back ++ a.later))) in
      let found = split (client ∷ []) entries (a.earlier ++ front) (back ++ a.later) c parts in
      let at = led_to told first last found.earlier found.entry found.later (subst (λ (es : List Entry). EntriesLead told first es last) found.is ran.lead) in (
        record {
          earlier = found.earlier;
          entry = found.entry;
          later = found.later;
          entries_are = found.is;
          its = is_the_one found.entry.seat client found.inside;
          answers = a.earlier;
          asked_before = a.before;
          own_before = found.before;
          before = at.before;
          after = at.after;
          to = at.to;
          made = at.made;
          from = at.from;
        },
        found.call,
      )
