-- The calls of a maker, one step after another.
use Rattle.std.proofs.Common.{◌≡◌, ℕ, ◌+◌, ◌<◌, ◌≤◌, ◌⊎◌, inl, inr, List, [], ◌∷◌, ◌++◌, length, get_or, take, drop, map, Option, Some, None, Result, Ok, Err, refl, sym, ap, ap₂, subst, ◌∙◌, rules, arith, append-nil, append_assoc, take-append-drop}
use Rattle.std.specs.Prelude.{Contains, IfSome, IsSomeAnd}
use Rattle.std.specs.List.{AllByRecursion}
use Rattle.std.proofs.lemmas.List.{map-append, map_more}
use Rattle.std.proofs.lemmas.List.Elements.{Contains-append_left, Contains-append_right}
use Rattle.traceql_syntax.specs.Trees.{QueryTree}
use Rattle.traceql_types.specs.declared.errors.MakeError.{MakeError}
use Rattle.traceql_types.specs.declared.errors.MakeError.TheVariants as make
use Rattle.traceql_types.specs.declared.errors.TypeError.{TypeError}
use Rattle.traceql_types.specs.declared.errors.TypeError.TheVariants.{KindClash, NotTruth, DivisionInAggregate, NotNumber, BadPattern, PatternTooBig, Memory}
use Rattle.traceql_types.specs.declared.pattern.Pattern.{Pattern}
use Rattle.traceql_types.specs.declared.asked.Asked.{Asked}
use Rattle.traceql_types.specs.Asked.{PlacedText, asked_patterns}
use Rattle.traceql_types.specs.Shown.{shown}
use Rattle.traceql_types.specs.Checks.{AreMade, made_calls, Ascends, IsLastAsked, IsLastCall, LeadsTo, AskedUpTo}
use Rattle.traceql_types.specs.Makers.{Call, Makes, CallsLead, RefusesOnly, WasRefused, refused_in}
use Rattle.traceql_types.specs.Order.{place, number, Precedes}
use Rattle.traceql_types.specs.Patterns.{pattern_text}
use Rattle.traceql_types.specs.Steps.{Called, GoesNoneBefore, Step, passed, done as made_one, bad, too_big}
use Rattle.traceql_types.proofs.Made.{are_made-more}
use Rattle.traceql_types.proofs.OfKinds.{IsOfKinds}

-- calls and then more calls
pub leads-on : {M : Type 0} (makes : Makes M) (a b c : M) (xs ys : List Call) → CallsLead makes a xs b → CallsLead makes b ys c → CallsLead makes a (xs ++ ys) c
leads-on makes a b c [] ys h k = subst (λ z. CallsLead makes z ys c) h k
leads-on makes a b c (x ∷ xs) ys h k = (h.0, h.1, leads-on makes h.0 b c xs ys h.2 k)

-- the texts that were refused in calls and in more calls
pub refused_in-append : (xs ys : List Call) → refused_in (xs ++ ys) ≡ refused_in xs ++ refused_in ys
refused_in-append [] ys = refl
refused_in-append ((t, Ok p) ∷ xs) ys = refused_in-append xs ys
refused_in-append ((t, Err make.Syntax) ∷ xs) ys = refused_in-append xs ys
refused_in-append ((t, Err make.Refused) ∷ xs) ys = ap (λ (zs : List (List ℕ)). t ∷ zs) (refused_in-append xs ys)
refused_in-append ((t, Err make.Memory) ∷ xs) ys = refused_in-append xs ys

-- calls that made patterns refused none
pub refused_in_made : (made : List Pattern) → refused_in (made_calls made) ≡ []
refused_in_made [] = refl
refused_in_made (p ∷ ps) = refused_in_made ps

module _ {M : Type 0} (makes : Makes M) (a b c : M) where
  -- nothing is asked for
  pub refuses-none : RefusesOnly makes a a []
  refuses-none = record { calls = []; lead = refl; texts_are = refl }

  -- one after another
  pub refuses-on : (xs ys : List (List ℕ)) → RefusesOnly makes a b xs → RefusesOnly makes b c ys → RefusesOnly makes a c (xs ++ ys)
  refuses-on xs ys h k = record {
    calls = h.calls ++ k.calls;
    lead = leads-on makes a b c h.calls k.calls h.lead k.lead;
    texts_are = ap₂ (λ (us vs : List (List ℕ)). us ++ vs) h.texts_are k.texts_are ∙ sym (refused_in-append h.calls k.calls);
  }

module _ {M : Type 0} (makes : Makes M) (a b c : M) (text : List ℕ) where
  -- a refusal stays one when more is asked for
  pub refused-before : (ys : List Call) → WasRefused makes a b text → CallsLead makes b ys c → WasRefused makes a c text
  refused-before ys was k = record {
    calls = was.calls ++ ys;
    lead = leads-on makes a b c was.calls ys was.lead k;
    among = Contains-append_left was.calls ys (text, Err make.Refused) was.among;
  }

  -- the last call is refused
  pub refused-last : (xs ys : List Call) → CallsLead makes a xs b → CallsLead makes b ys c → ys ≡ (text, Err make.Refused) ∷ [] → WasRefused makes a c text
  refused-last xs ys h k is = record {
    calls = xs ++ ys;
    lead = leads-on makes a b c xs ys h k;
    among = Contains-append_right xs ys (text, Err make.Refused) (subst (λ z. Contains z (text, Err make.Refused)) (sym is) (search rules));
  }

-- facts of each element of joined lists
all-joined : {X : Type 0} (P : X → Type 0) (xs ys : List X) → AllByRecursion P xs → AllByRecursion P ys → AllByRecursion P (xs ++ ys)
all-joined P [] ys h k = k
all-joined P (x ∷ xs) ys h k = (h.0, all-joined P xs ys h.1 k)

all-parted : {X : Type 0} (P : X → Type 0) (xs ys : List X) → AllByRecursion P (xs ++ ys) → AllByRecursion P xs × AllByRecursion P ys
all-parted P [] ys h = (tt, h)
all-parted P (x ∷ xs) ys h = let more = all-parted P xs ys h.1 in ((h.0, more.0), more.1)

pub all-weaker : {X : Type 0} (P Q : X → Type 0) → ((x : X) → P x → Q x) → (xs : List X) → AllByRecursion P xs → AllByRecursion Q xs
all-weaker P Q w [] h = tt
all-weaker P Q w (x ∷ xs) h = (w x h.0, all-weaker P Q w xs h.1)

-- what stands in front of the last one stands at earlier places
ascends-front : (done : List PlacedText) (m : PlacedText) → Ascends (done ++ m ∷ []) → Ascends done × AllByRecursion (λ (n : PlacedText). n.0 < m.0) done
ascends-front [] m h = (tt, tt)
ascends-front (n ∷ done) m h =
    let own = all-parted (λ (k : PlacedText). n.0 < k.0) done (m ∷ []) h.0 in
    let more = ascends-front done m h.1 in
    ((own.0, more.0), (own.1.0, more.1))

made_calls-more : (made : List Pattern) (p : Pattern) (text : List ℕ) → pattern_text p ≡ text → made_calls made ++ (text, Ok p) ∷ [] ≡ made_calls (made ++ p ∷ [])
made_calls-more made p text shows =
    ap (λ (t : List ℕ). made_calls made ++ (t, Ok p) ∷ []) (sym shows) ∙ sym (map-append (λ (q : Pattern). let c : Call = (pattern_text q, Ok q) in c) made (p ∷ []))

-- The order of a refusal and a pattern.

not_before : (p k at : ℕ) → ((p < at) ⊎ ((p ≡ at) × (k ≤ 5)) → ⊥) → k ≤ 5 → at < p
not_before p k at none small = grind arith

before_all : (p at : ℕ) (k : ℕ) → (p < at) ⊎ ((p ≡ at) × (k ≤ 5)) → p ≤ at
before_all p at k (inl h) = omega arith
before_all p at k (inr h) = omega arith

none_behind : (at : ℕ) (rest : List PlacedText) (m : PlacedText) → AllByRecursion (λ (n : PlacedText). n.0 < m.0) rest → AllByRecursion (λ (n : PlacedText). at ≤ n.0) rest → m.0 < at → rest ≡ []
none_behind at [] m low high h = refl
none_behind at (n ∷ rest) m low high h = absurd (let a : n.0 < m.0 = low.0 in let b : at ≤ n.0 = high.0 in omega arith)

asked_is_behind : (at : ℕ) (answer : Result Pattern MakeError) (rest : List PlacedText) (m : PlacedText) (last : List Call) → IsLastAsked at answer rest last → AllByRecursion (λ (n : PlacedText). n.0 < m.0) rest → at < m.0
asked_is_behind at answer [] m last is low = absurd is
asked_is_behind at answer (n ∷ rest) m last is low = let e : n.0 ≡ at = is.0 in let h : n.0 < m.0 = low.0 in omega arith

-- What is known where no refusal goes before the next pattern: the refusal found so far, if there is one, is for kinds.
pub record Fresh (e : TypeError) (m : PlacedText) (rest : List PlacedText) (last : List Call) : Type 0 where
  pub lower : m.0 < place e
  pub no_rest : rest ≡ []
  pub no_last : last ≡ []
  pub of_kinds : IsLastCall e [] []

fresh : (e : TypeError) (m : PlacedText) (rest : List PlacedText) (last : List Call) → (Precedes e (BadPattern m.0) → ⊥) → IsLastCall e rest last → AllByRecursion (λ (n : PlacedText). n.0 < m.0) rest → AllByRecursion (λ (n : PlacedText). place e ≤ n.0) rest → Fresh e m rest last
fresh (KindClash at) m rest last none is low high = let h = not_before at 1 m.0 none (omega arith) in record { lower = h; no_rest = none_behind at rest m low high h; no_last = is; of_kinds = refl }
fresh (NotTruth at) m rest last none is low high = let h = not_before at 2 m.0 none (omega arith) in record { lower = h; no_rest = none_behind at rest m low high h; no_last = is; of_kinds = refl }
fresh (DivisionInAggregate at) m rest last none is low high = let h = not_before at 3 m.0 none (omega arith) in record { lower = h; no_rest = none_behind at rest m low high h; no_last = is; of_kinds = refl }
fresh (NotNumber at) m rest last none is low high = let h = not_before at 4 m.0 none (omega arith) in record { lower = h; no_rest = none_behind at rest m low high h; no_last = is; of_kinds = refl }
fresh (BadPattern at) m rest last none is low high = absurd (none (inl (asked_is_behind at (Err make.Syntax) rest m last is low)))
fresh (PatternTooBig at) m rest last none is low high = absurd (none (inl (asked_is_behind at (Err make.Refused) rest m last is low)))
fresh Memory m rest last none is low high = absurd is

-- all patterns so far were asked for and made
pub record AllMade (ms : List PlacedText) (calls : List Call) : Type 0 where
  pub made : List Pattern
  pub are_made : AreMade ms made
  pub calls_are : calls ≡ made_calls made

front_of : (ms : List PlacedText) (m : PlacedText) (e : TypeError) (calls : List Call) → (led : LeadsTo ms e calls) → (Precedes e (BadPattern m.0) → ⊥) → AllByRecursion (λ (n : PlacedText). n.0 < m.0) ms → Fresh e m led.rest led.last
front_of ms m e calls led none low =
    let low' = subst (λ z. AllByRecursion (λ (n : PlacedText). n.0 < m.0) z) led.patterns_are low in
    fresh e m led.rest led.last none led.is_last (all-parted (λ (n : PlacedText). n.0 < m.0) led.front led.rest low').1 led.behind

all_made : (ms : List PlacedText) (m : PlacedText) (first : Option TypeError) (made : List Pattern) (calls : List Call) → (first ≡ None → AreMade ms made) → Called ms first made calls → GoesNoneBefore first m.0 → Ascends (ms ++ m ∷ []) → AllMade ms calls
all_made ms m None made calls are called none asc = record { made = made; are_made = are refl; calls_are = called }
all_made ms m (Some e) made calls are called none asc =
    let front = ascends-front ms m asc in
    let led = called front.0 in
    let f = front_of ms m e calls led none front.1 in
    let whole : ms ≡ led.front = led.patterns_are ∙ ap (λ z. led.front ++ z) f.no_rest ∙ append-nil led.front in
    record {
      made = led.made;
      are_made = subst (λ z. AreMade z led.made) (sym whole) led.are_made;
      calls_are = led.calls_are ∙ ap (λ z. made_calls led.made ++ z) f.no_last ∙ append-nil (made_calls led.made);
    }

-- the pattern is passed over
last-longer : (at : ℕ) (answer : Result Pattern MakeError) (rest : List PlacedText) (m : PlacedText) (last : List Call) → IsLastAsked at answer rest last → IsLastAsked at answer (rest ++ m ∷ []) last
last-longer at answer [] m last is = absurd is
last-longer at answer (n ∷ rest) m last is = is

call-longer : (e : TypeError) (rest : List PlacedText) (m : PlacedText) (last : List Call) → IsLastCall e rest last → IsLastCall e (rest ++ m ∷ []) last
call-longer (KindClash at) rest m last is = is
call-longer (NotTruth at) rest m last is = is
call-longer (DivisionInAggregate at) rest m last is = is
call-longer (NotNumber at) rest m last is = is
call-longer (BadPattern at) rest m last is = last-longer at (Err make.Syntax) rest m last is
call-longer (PatternTooBig at) rest m last is = last-longer at (Err make.Refused) rest m last is
call-longer Memory rest m last is = absurd is

called-passed : (ms : List PlacedText) (m : PlacedText) (first : Option TypeError) (made : List Pattern) (calls : List Call) → IsSomeAnd first (λ e. Precedes e (BadPattern m.0)) → Called ms first made calls → Called (ms ++ m ∷ []) first made (calls ++ [])
called-passed ms m None made calls before called = absurd before
called-passed ms m (Some e) made calls before called = λ asc.
    let led = called (ascends-front ms m asc).0 in
    record {
      front = led.front;
      rest = led.rest ++ m ∷ [];
      patterns_are = ap (λ z. z ++ m ∷ []) led.patterns_are ∙ append_assoc led.front led.rest (m ∷ []);
      before = led.before;
      behind = all-joined (λ (n : PlacedText). place e ≤ n.0) led.rest (m ∷ []) led.behind (before_all (place e) m.0 (number e) before, tt);
      made = led.made;
      are_made = led.are_made;
      last = led.last;
      is_last = call-longer e led.rest m led.last led.is_last;
      calls_are = append-nil calls ∙ led.calls_are;
    }

-- the pattern is made
called-made : (ms : List PlacedText) (m : PlacedText) (first : Option TypeError) (made : List Pattern) (calls : List Call) (p : Pattern) → (first ≡ None → AreMade ms made) → GoesNoneBefore first m.0 → pattern_text p ≡ m.1 → Called ms first made calls → Called (ms ++ m ∷ []) first (made ++ p ∷ []) (calls ++ (m.1, Ok p) ∷ [])
called-made ms m None made calls p are none shows called = ap (λ z. z ++ (m.1, Ok p) ∷ []) called ∙ made_calls-more made p m.1 shows
called-made ms m (Some e) made calls p are none shows called = λ asc.
    let front = ascends-front ms m asc in
    let led = called front.0 in
    let f = front_of ms m e calls led none front.1 in
    let all = all_made ms m (Some e) made calls are called none asc in
    record {
      front = ms ++ m ∷ [];
      rest = [];
      patterns_are = sym (append-nil (ms ++ m ∷ []));
      before = all-joined (λ (n : PlacedText). n.0 < place e) ms (m ∷ []) (all-weaker (λ (n : PlacedText). n.0 < m.0) (λ (n : PlacedText). n.0 < place e) (λ n low. (let h : n.0 < m.0 = low in let k = f.lower in omega arith)) ms front.1) (f.lower, tt);
      behind = tt;
      made = all.made ++ p ∷ [];
      are_made = are_made-more ms m all.made p shows all.are_made;
      last = [];
      is_last = f.of_kinds;
      calls_are = ap (λ z. z ++ (m.1, Ok p) ∷ []) all.calls_are ∙ made_calls-more all.made p m.1 shows ∙ sym (append-nil (made_calls (all.made ++ p ∷ [])));
    }

-- the pattern is refused
led-refused : (ms : List PlacedText) (m : PlacedText) (first : Option TypeError) (made : List Pattern) (calls : List Call) (x : TypeError) (answer : Result Pattern MakeError) → place x ≡ m.0 → IsLastCall x (m ∷ []) ((m.1, answer) ∷ []) → (first ≡ None → AreMade ms made) → GoesNoneBefore first m.0 → Called ms first made calls → Ascends (ms ++ m ∷ []) → LeadsTo (ms ++ m ∷ []) x (calls ++ (m.1, answer) ∷ [])
led-refused ms m first made calls x answer here is are none called asc =
    let all = all_made ms m first made calls are called none asc in
    record {
      front = ms;
      rest = m ∷ [];
      patterns_are = refl;
      before = subst (λ z. AllByRecursion (λ (n : PlacedText). n.0 < z) ms) (sym here) (ascends-front ms m asc).1;
      behind = (omega (arith, here), tt);
      made = all.made;
      are_made = all.are_made;
      last = (m.1, answer) ∷ [];
      is_last = is;
      calls_are = ap (λ z. z ++ (m.1, answer) ∷ []) all.calls_are;
    }

-- one step more
pub called-step : (ms : List PlacedText) (m : PlacedText) (first now : Option TypeError) (made more : List Pattern) (before calls : List Call) →
    (first ≡ None → AreMade ms made) → Step m first made now more calls → Called ms first made before → Called (ms ++ m ∷ []) now more (before ++ calls)
called-step ms m first now made more before calls are (passed goes) called = called-passed ms m first made before goes called
called-step ms m first now made more before calls are (made_one p none shows) called = called-made ms m first made before p are none shows called
called-step ms m first now made more before calls are (bad none why) called =
    led-refused ms m first made before (BadPattern m.0) (Err make.Syntax) refl (refl, refl) are none called
called-step ms m first now made more before calls are (too_big none) called =
    led-refused ms m first made before (PatternTooBig m.0) (Err make.Refused) refl (refl, refl) are none called

-- before the first pattern
pub called-start : (kinds : Option TypeError) (made : List Pattern) → made ≡ [] → IfSome kinds IsOfKinds → Called [] kinds made []
called-start None made is fine = rw is refl
called-start (Some e) made is fine = λ asc. record {
  front = [];
  rest = [];
  patterns_are = refl;
  before = tt;
  behind = tt;
  made = [];
  are_made = refl;
  last = [];
  is_last = on_none e fine;
  calls_are = refl;
} where
  on_none : (e : TypeError) → IsOfKinds e → IsLastCall e [] []
  on_none (KindClash at) h = refl
  on_none (NotTruth at) h = refl
  on_none (DivisionInAggregate at) h = refl
  on_none (NotNumber at) h = refl
  on_none (BadPattern at) h = absurd h
  on_none (PatternTooBig at) h = absurd h
  on_none Memory h = absurd h

-- after the last pattern
pub called-at_end : (q : QueryTree) (e : TypeError) (calls : List Call) → (Ascends (asked_patterns q) → LeadsTo (asked_patterns q) e calls) → AskedUpTo q e calls
called-at_end q (KindClash at) calls h = h
called-at_end q (NotTruth at) calls h = h
called-at_end q (DivisionInAggregate at) calls h = h
called-at_end q (NotNumber at) calls h = h
called-at_end q (BadPattern at) calls h = h
called-at_end q (PatternTooBig at) calls h = h
called-at_end q Memory calls h = λ asc. absurd (h asc).is_last

pub called-found : (ms asked : List PlacedText) (first : Option TypeError) (e : TypeError) (made : List Pattern) (calls : List Call) → first ≡ Some e → ms ≡ asked → Called ms first made calls → Ascends asked → LeadsTo asked e calls
called-found ms asked first e made calls is all called = rw (← all) (rw is at called)

pub called-none : (ms : List PlacedText) (first : Option TypeError) (made : List Pattern) (calls : List Call) → first ≡ None → Called ms first made calls → calls ≡ made_calls made
called-none ms first made calls is called = rw is at called

-- memory ran out at the next pattern
pub called-starved : (ms : List PlacedText) (m : PlacedText) (first : Option TypeError) (made : List Pattern) (before calls : List Call) →
    (first ≡ None → AreMade ms made) → GoesNoneBefore first m.0 → refused_in calls ≡ [] → Called ms first made before → Ascends (ms ++ m ∷ []) → refused_in (before ++ calls) ≡ []
called-starved ms m first made before calls are none nothing called asc =
    let all = all_made ms m first made before are called none asc in
    refused_in-append before calls ∙ ap₂ (λ (us vs : List (List ℕ)). us ++ vs) (ap refused_in all.calls_are ∙ refused_in_made all.made) nothing

-- the patterns in front stand in order where all do
pub ascends-first : (xs ys : List PlacedText) → Ascends (xs ++ ys) → Ascends xs
ascends-first [] ys h = tt
ascends-first (x ∷ xs) ys h = ((all-parted (λ (n : PlacedText). x.0 < n.0) xs ys h.0).0, ascends-first xs ys h.1)

-- so do the next one and those in front of it
pub ascends-taken : (xs : List Asked) (i : ℕ) (d : Asked) → i < length xs → Ascends (map shown xs) → Ascends (map shown (take i xs) ++ shown (get_or xs i d) ∷ [])
ascends-taken xs i d within h =
    rw (← map_more shown xs i d within) (ascends-first (map shown (take (i + 1) xs)) (map shown (drop (i + 1) xs))
    (subst Ascends (ap (map shown) (sym (take-append-drop (i + 1) xs)) ∙ map-append shown (take (i + 1) xs) (drop (i + 1) xs)) h))
