-- How the replies to several clients are written.
use Rattle.std.proofs.Common.{◌≡◌, inl, inr, ◌∙◌, ℕ, ◌+◌, ◌<◌, ◌||◌, Bool, true, false, List, [], ◌∷◌, ◌++◌, Option, Some, None, ap, append-nil, append_assoc, arith, drop, get_or, if◌then◌else◌, length, refl, subst, sym, take, take-append-drop}
use Rattle.std.specs.List.{concat, list_any}
use Rattle.std.specs.Io.KnownBytes.{Appends}
use Rattle.client_scripts.specs.declared.script.Answered.{Answered}
use Rattle.std.proofs.lemmas.List.{length-take-le, take_more}
use Rattle.std.proofs.lemmas.List.Folds.{concat-append}
use Rattle.io_edges.specs.Devices.{AppendsPrefix}
use Rattle.session_text.specs.declared.reply.Reply.{Reply}
use Rattle.session_meaning.specs.declared.ending.Ending.{Ending}
use Rattle.session_meaning.specs.declared.ending.Ending.TheVariants.{Answered as answered, BadWords, NotOpened, NotStore, ReadFault, Refused, Spent, Starved, WriteFault}
use Rattle.session_meaning.specs.ServedRuns.{EndsServing, all_replies, any_starved}
use Rattle.session_meaning.specs.ServedRuns.{StopsForMemory as stops}
use Rattle.session_meaning.specs.Serving.{reply_to, served_texts, texts_to}
use Rattle.session_meaning.specs.Session.{end_of, is_for_memory, is_refusal}
use Rattle.trace_shell.specs.Serving.{HaveBeenGiven, tally_after}
use Rattle.trace_shell.specs.Turn.{ending_of, tally_with}
use Rattle.trace_shell.specs.declared.session.Tally.{Tally}
use Rattle.trace_shell.proofs.DrillLemmas.{appends_then, prefix_here, prefix_then}

abbrev Sunk : Type 0
Sunk = Option (List ℕ)

-- ---- one after another

pub appends_nothing : (taken : Sunk) → Appends taken taken []
appends_nothing None = tt
appends_nothing (Some bs) = sym (append-nil bs)

tally_then : (rs qs : List Reply) (t : Tally) → tally_after (tally_after t rs) qs ≡ tally_after t (rs ++ qs)
tally_then [] qs t = refl
tally_then (r ∷ rs) qs t = tally_then rs qs (tally_with t r)

pub given_none : (taken : Sunk) (t : Tally) → HaveBeenGiven taken taken t t [] [] None
given_none taken t = (appends_nothing taken, refl)

-- texts and then more of them
together : (s t u : Sunk) (a b : List (List ℕ)) → Appends s t (concat a) → Appends t u (concat b) → Appends s u (concat (a ++ b))
together s t u a b one two = subst (λ (bs : List ℕ). Appends s u bs) (sym (concat-append a b)) (appends_then s t u (concat a) (concat b) one two)

-- More was given, or it was cut off there.
pub given_then : (s t u : Sunk) (x y z : Tally) (rs qs : List Reply) (a b : List (List ℕ)) (stopped : Option Ending) → HaveBeenGiven s t x y rs a None → HaveBeenGiven t u y z qs b stopped
    → HaveBeenGiven s u x z (rs ++ qs) (a ++ b) stopped
given_then s t u x y z rs qs a b None one two =
    (together s t u a b one.0 two.0, two.1 ∙ ap (λ (v : Tally). tally_after v qs) one.1 ∙ tally_then rs qs x)
given_then s t u x y z rs qs a b (Some Starved) one (first, text, later, is, written) =
    (a ++ first, text, later, ap (λ (ts : List (List ℕ)). a ++ ts) is ∙ sym (append_assoc a first (text ∷ later)), together s t u a first one.0 written)
given_then s t u x y z rs qs a b (Some WriteFault) one two =
    subst (λ (bs : List ℕ). AppendsPrefix s u bs) (sym (concat-append a b)) (prefix_then s t u (concat a) (concat b) one.0 two)
given_then s t u x y z rs qs a b (Some answered) one two = absurd two
given_then s t u x y z rs qs a b (Some BadWords) one two = absurd two
given_then s t u x y z rs qs a b (Some ReadFault) one two = absurd two
given_then s t u x y z rs qs a b (Some NotOpened) one two = absurd two
given_then s t u x y z rs qs a b (Some (NotStore file at)) one two = absurd two
given_then s t u x y z rs qs a b (Some Refused) one two = absurd two
given_then s t u x y z rs qs a b (Some Spent) one two = absurd two

-- What was cut off is cut off of more.
pub given_cut : (s t : Sunk) (x y : Tally) (rs qs : List Reply) (a b : List (List ℕ)) (e : Ending) → HaveBeenGiven s t x y rs a (Some e) → HaveBeenGiven s t x y (rs ++ qs) (a ++ b) (Some e)
given_cut s t x y rs qs a b Starved (first, text, later, is, written) =
    (first, text, later ++ b, ap (λ (ts : List (List ℕ)). ts ++ b) is ∙ append_assoc first (text ∷ later) b, written)
given_cut s t x y rs qs a b WriteFault one = subst (λ (bs : List ℕ). AppendsPrefix s t bs) (sym (concat-append a b)) (prefix_here s t (concat a) (concat b) one)
given_cut s t x y rs qs a b answered one = absurd one
given_cut s t x y rs qs a b BadWords one = absurd one
given_cut s t x y rs qs a b ReadFault one = absurd one
given_cut s t x y rs qs a b NotOpened one = absurd one
given_cut s t x y rs qs a b (NotStore file at) one = absurd one
given_cut s t x y rs qs a b Refused one = absurd one
given_cut s t x y rs qs a b Spent one = absurd one

-- ---- texts

pub texts_then : (client : ℕ) (rs qs : List Reply) → texts_to client (rs ++ qs) ≡ texts_to client rs ++ texts_to client qs
texts_then client [] qs = refl
texts_then client (r ∷ rs) qs = ap (λ (ts : List (List ℕ)). reply_to client r ∷ ts) (texts_then client rs qs)

pub served_then : (client : ℕ) (xs : List Answered) (y : Answered) (last : ℕ) → client + length xs ≡ last
    → served_texts client (xs ++ y ∷ []) ≡ served_texts client xs ++ texts_to last y.replies.items
served_then client [] y last is = append-nil (texts_to client y.replies.items) ∙ ap (λ (n : ℕ). texts_to n y.replies.items) (let none : client + 0 ≡ client = omega arith in sym none ∙ is)
served_then client (x ∷ xs) y last is =
    ap (λ (ts : List (List ℕ)). texts_to client x.replies.items ++ ts) (served_then (client + 1) xs y last (omega (arith, is)))
    ∙ sym (append_assoc (texts_to client x.replies.items) (served_texts (client + 1) xs) (texts_to last y.replies.items))

pub all_then : (xs : List Answered) (y : Answered) → all_replies (xs ++ y ∷ []) ≡ all_replies xs ++ y.replies.items
all_then [] y = append-nil y.replies.items
all_then (x ∷ xs) y = ap (λ (t : List Reply). x.replies.items ++ t) (all_then xs y) ∙ sym (append_assoc x.replies.items (all_replies xs) y.replies.items)

-- The first texts are those of all.
pub served_front : (client : ℕ) (xs ys : List Answered) → (more : List (List ℕ)) × (served_texts client (xs ++ ys) ≡ served_texts client xs ++ more)
served_front client [] ys = (served_texts client ys, refl)
served_front client (x ∷ xs) ys =
    let rest = served_front (client + 1) xs ys in (
      rest.0,
      ap (λ (ts : List (List ℕ)). texts_to client x.replies.items ++ ts) rest.1 ∙ sym (append_assoc (texts_to client x.replies.items) (served_texts (client + 1) xs) rest.0),
    )

pub all_front : (xs ys : List Answered) → all_replies (xs ++ ys) ≡ all_replies xs ++ all_replies ys
all_front [] ys = refl
all_front (x ∷ xs) ys = ap (λ (t : List Reply). x.replies.items ++ t) (all_front xs ys) ∙ sym (append_assoc x.replies.items (all_replies xs) (all_replies ys))

-- ---- so many so far

pub one_text : (text : List ℕ) → concat (text ∷ []) ≡ text
one_text text = append-nil text

module _ (s t u : Sunk) (x y z : Tally) (client : ℕ) (replies : List Reply) (n : ℕ) (reply : Reply) (here : n < length replies) (is : reply ≡ get_or replies n reply) where
  abbrev Given : Sunk → Tally → List Reply → Option Ending → Type 0
  Given new tally rs stopped = HaveBeenGiven s new x tally rs (texts_to client rs) stopped

  -- One reply more was given to a client, or it was cut off there.
  pub reply_more : (stopped : Option Ending) → Given t y (take n replies) None → HaveBeenGiven t u y z (reply ∷ []) (reply_to client reply ∷ []) stopped → Given u z (take (n + 1) replies) stopped
  reply_more stopped one two =
      let next : take (n + 1) replies ≡ take n replies ++ reply ∷ [] = take_more replies n reply here ∙ ap (λ (r : Reply). take n replies ++ r ∷ []) (sym is) in
      subst (λ (rs : List Reply). Given u z rs stopped) (sym next)
      (subst (λ (ts : List (List ℕ)). HaveBeenGiven s u x z (take n replies ++ reply ∷ []) ts stopped) (sym (texts_then client (take n replies) (reply ∷ [])))
      (given_then s t u x y z (take n replies) (reply ∷ []) (texts_to client (take n replies)) (reply_to client reply ∷ []) stopped one two))

  -- It was cut off there.
  pub reply_cut : (e : Ending) → Given t y (take n replies) None → HaveBeenGiven t u y z (reply ∷ []) (reply_to client reply ∷ []) (Some e) → Given u z replies (Some e)
  reply_cut e one two =
      let front = take (n + 1) replies in
      let back = drop (n + 1) replies in
      subst (λ (rs : List Reply). Given u z rs (Some e)) (take-append-drop (n + 1) replies)
      (subst (λ (ts : List (List ℕ)). HaveBeenGiven s u x z (front ++ back) ts (Some e)) (sym (texts_then client front back))
      (given_cut s u x z front back (texts_to client front) (texts_to client back) e (reply_more (Some e) one two)))

module _ (s t u : Sunk) (x y z : Tally) (answers : List Answered) (n : ℕ) (one : Answered) (here : n < length answers) (is : one ≡ get_or answers n one) where
  abbrev Served : Sunk → Tally → List Answered → Option Ending → Type 0
  Served new tally given stopped = HaveBeenGiven s new x tally (all_replies given) (served_texts 0 given) stopped

  -- The replies to one client more were given, or it was cut off there.
  pub client_more : (stopped : Option Ending) → Served t y (take n answers) None → HaveBeenGiven t u y z one.replies.items (texts_to n one.replies.items) stopped → Served u z (take (n + 1) answers) stopped
  client_more stopped before now =
      let front = take n answers in
      let next : take (n + 1) answers ≡ front ++ one ∷ [] = take_more answers n one here ∙ ap (λ (a : Answered). front ++ a ∷ []) (sym is) in
      let many : 0 + length front ≡ n = omega (arith, length-take-le n answers (omega (arith, here))) in
      subst (λ (given : List Answered). Served u z given stopped) (sym next)
      (subst (λ (rs : List Reply). HaveBeenGiven s u x z rs (served_texts 0 (front ++ one ∷ [])) stopped) (sym (all_then front one))
      (subst (λ (ts : List (List ℕ)). HaveBeenGiven s u x z (all_replies front ++ one.replies.items) ts stopped) (sym (served_then 0 front one n many))
      (given_then s t u x y z (all_replies front) one.replies.items (served_texts 0 front) (texts_to n one.replies.items) stopped before now)))

  -- It was cut off there.
  pub client_cut : (e : Ending) → Served t y (take n answers) None → HaveBeenGiven t u y z one.replies.items (texts_to n one.replies.items) (Some e) → Served u z answers (Some e)
  client_cut e before now =
      let front = take (n + 1) answers in
      let back = drop (n + 1) answers in
      let more = served_front 0 front back in
      subst (λ (given : List Answered). Served u z given (Some e)) (take-append-drop (n + 1) answers)
      (subst (λ (rs : List Reply). HaveBeenGiven s u x z rs (served_texts 0 (front ++ back)) (Some e)) (sym (all_front front back))
      (subst (λ (ts : List (List ℕ)). HaveBeenGiven s u x z (all_replies front ++ all_replies back) ts (Some e)) (sym more.1)
      (given_cut s u x z (all_replies front) (all_replies back) (served_texts 0 front) more.0 e (client_more (Some e) before now))))

-- ---- how a run ends

or_assoc : (a b c : Bool) → ((a || b) || c) ≡ (a || (b || c))
or_assoc true b c = refl
or_assoc false b c = refl

tally_of : (rs : List Reply) (t : Tally) → tally_after t rs ≡ record { refused = t.refused || list_any is_refusal rs; starved = t.starved || list_any is_for_memory rs }
tally_of [] t = rw (or_none t.refused, or_none t.starved) refl
  where
    or_none : (a : Bool) → (a || false) ≡ a
    or_none true = refl
    or_none false = refl
tally_of (r ∷ rs) t =
    tally_of rs (tally_with t r)
    ∙ ap (λ (b : Bool). record { refused = b; starved = (t.starved || is_for_memory r) || list_any is_for_memory rs }) (or_assoc t.refused (is_refusal r) (list_any is_refusal rs))
    ∙ ap (λ (b : Bool). record { refused = t.refused || list_any is_refusal (r ∷ rs); starved = b }) (or_assoc t.starved (is_for_memory r) (list_any is_for_memory rs))

-- The tally of all replies tells the ending.
tally_ends : (rs : List Reply) (t : Tally) → t ≡ record { refused = false; starved = false } → ending_of (tally_after t rs) ≡ end_of rs
tally_ends rs t is = ap (λ (x : Tally). ending_of (tally_after x rs)) is ∙ ap ending_of (tally_of rs (record { refused = false; starved = false }))

ends_as : (rs : List Reply) (P : Ending → Type 0) → (end_of rs ≡ answered → P answered) → (end_of rs ≡ Starved → P Starved) → (end_of rs ≡ Refused → P Refused) → P (end_of rs)
ends_as rs P as_answered as_starved as_refused = go (list_any is_refusal rs) (list_any is_for_memory rs) (as_answered, as_starved, as_refused)
  where
    go : (a b : Bool) → (((if a then Refused else if b then Starved else answered) ≡ answered → P answered)
        × ((if a then Refused else if b then Starved else answered) ≡ Starved → P Starved) × ((if a then Refused else if b then Starved else answered) ≡ Refused → P Refused))
        → P (if a then Refused else if b then Starved else answered)
    go true b h = h.2 refl
    go false true h = h.1 refl
    go false false h = h.0 refl

-- All replies were written.
pub served_ends : (old new : Sunk) (answers : List Answered) (t after : Tally) (e : Ending) → any_starved answers ≡ false → t ≡ record { refused = false; starved = false }
    → HaveBeenGiven old new t after (all_replies answers) (served_texts 0 answers) None → e ≡ ending_of after → EndsServing e answers old new
served_ends old new answers t after e whole none given is =
    let ended : e ≡ end_of (all_replies answers) = is ∙ ap ending_of given.1 ∙ tally_ends (all_replies answers) t none in
    subst (λ (x : Ending). EndsServing x answers old new) (sym ended)
    (ends_as (all_replies answers) (λ x. EndsServing x answers old new)
    (λ so. record { whole = whole; written = given.0; ends = so })
    (λ so. inl (record { whole = whole; written = given.0; ends = so }))
    (λ so. record { whole = whole; written = given.0; ends = so }))

-- Memory ran out before the end of some script.
pub starved_ends : (taken : Sunk) (answers : List Answered) → any_starved answers ≡ true → EndsServing Starved answers taken taken
starved_ends taken answers some = inr (stops.starved some refl)

-- Memory ran out before anything was asked.
pub unasked_ends : (taken : Sunk) → EndsServing Starved [] taken taken
unasked_ends taken = inr (stops.unasked refl refl)

-- Not all could be written.
pub cut_ends : (old new : Sunk) (answers : List Answered) (t after : Tally) (e : Ending) → any_starved answers ≡ false
    → HaveBeenGiven old new t after (all_replies answers) (served_texts 0 answers) (Some e) → EndsServing e answers old new
cut_ends old new answers t after Starved whole (first, text, later, is, written) = inr (stops.cut_off whole first text later is written)
cut_ends old new answers t after WriteFault whole given = (whole, given)
cut_ends old new answers t after answered whole given = absurd given
cut_ends old new answers t after BadWords whole given = absurd given
cut_ends old new answers t after ReadFault whole given = absurd given
cut_ends old new answers t after NotOpened whole given = absurd given
cut_ends old new answers t after (NotStore file at) whole given = absurd given
cut_ends old new answers t after Refused whole given = absurd given
cut_ends old new answers t after Spent whole given = absurd given

-- The source has no part in it.
pub cut_by_sink : (old new : Sunk) (t after : Tally) (rs : List Reply) (texts : List (List ℕ)) (e : Ending) → HaveBeenGiven old new t after rs texts (Some e) → (e ≡ ReadFault → ⊥) × (e ≡ Spent → ⊥)
cut_by_sink old new t after rs texts Starved given = (λ is. cc, λ is. cc)
cut_by_sink old new t after rs texts WriteFault given = (λ is. cc, λ is. cc)
cut_by_sink old new t after rs texts answered given = absurd given
cut_by_sink old new t after rs texts BadWords given = absurd given
cut_by_sink old new t after rs texts ReadFault given = absurd given
cut_by_sink old new t after rs texts NotOpened given = absurd given
cut_by_sink old new t after rs texts (NotStore file at) given = absurd given
cut_by_sink old new t after rs texts Refused given = absurd given
cut_by_sink old new t after rs texts Spent given = absurd given

pub told_by_tally : (t : Tally) → (ending_of t ≡ ReadFault → ⊥) × (ending_of t ≡ Spent → ⊥)
told_by_tally t = go t.refused t.starved
  where
    go : (a b : Bool) → ((if a then Refused else if b then Starved else answered) ≡ ReadFault → ⊥) × ((if a then Refused else if b then Starved else answered) ≡ Spent → ⊥)
    go true b = (λ is. cc, λ is. cc)
    go false true = (λ is. cc, λ is. cc)
    go false false = (λ is. cc, λ is. cc)

pub not_by_sink : (t : Tally) → ending_of t ≡ WriteFault → ⊥
not_by_sink t = go t.refused t.starved
  where
    go : (a b : Bool) → (if a then Refused else if b then Starved else answered) ≡ WriteFault → ⊥
    go true b = λ is. cc
    go false true = λ is. cc
    go false false = λ is. cc
