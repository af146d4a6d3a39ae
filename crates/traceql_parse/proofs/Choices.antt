-- The laws of a choice by the first token, and of what opens a construct.
use Rattle.std.proofs.Common.{◌≡◌, ℕ, zero, suc, ◌≤◌, Bool, true, false, List, [], ◌∷◌, ◌++◌, length, Option, Some, None, is_some, if◌then◌else◌, Ok, Err, ◌⊎◌, inl, inr, refl, sym, ◌∙◌, ap, subst}
use Rattle.traceql_tokens.specs.Tokens.{mended}
use Rattle.traceql_tokens.specs.declared.fixed.Sign.{Sign}
use Rattle.traceql_tokens.specs.declared.fixed.Word.{Word}
use Rattle.traceql_tokens.specs.declared.kinds.Token.{Token}
use Rattle.traceql_tokens.specs.declared.kinds.TokenKind.{TokenKind}
use Rattle.traceql_syntax.specs.Refusals.{healed}
use Rattle.traceql_syntax.specs.Tables.{on_sign, on_word}
use Rattle.traceql_parse.specs.declared.stop.Cause.{Cause}
use Rattle.traceql_parse.specs.declared.stop.Cause.TheVariants as cause
use Rattle.traceql_parse.specs.Reading.{Answer, ◌>>=◌, next_sign, next_word, expect_sign, or_refused}
use Rattle.traceql_parse.proofs.Laws.{Reader, Lang, Stops, deeper, Alike, alike_front, alike_healed, Took, IsSound, Keeps, Completes, Grows, Occurs, Starts, Viable, Fails, Bars, Barred, IsRefusing, bind_fails, Seq, next, next_keeps, next_sound, next_completes, next_grows, next_refuses}
use Rattle.traceql_parse.proofs.Base.{never, One, at_sign, placing, placing_before, on_sign_mended, on_word_mended, sign_keeps, sign_sound, sign_completes, sign_refuses, err_inj, wrong}

-- a test of the first token's kind, that a fault doesn't change
pub record Local (c : List Token → Bool) : Type 0 where
  pub none : c [] ≡ false
  pub same : (ts us : List Token) → Alike ts us → c us ≡ c ts

pub local_behind : (c : List Token → Bool) → Local c → (front rest : List Token) (t : Token) (more : List Token) → c (front ++ (healed t ∷ more)) ≡ c (front ++ (t ∷ rest))
local_behind c l front rest t more = l.same (front ++ (t ∷ rest)) (front ++ (healed t ∷ more)) (alike_healed front t rest more)

some_placed : {V : Type 0} (at bt : ℕ) (ts us : List Token) (o w : Option V) → o ≡ w → is_some (placing_before at ts o) ≡ is_some (placing_before bt us w)
some_placed at bt ts us None w h = ap (λ o. is_some (placing_before bt us o)) h
some_placed at bt ts us (Some v) w h = ap (λ o. is_some (placing_before bt us o)) h

like_sign : {V : Type 0} (f : Sign → Option V) (ts us : List Token) → Alike ts us → is_some (next_sign f us) ≡ is_some (next_sign f ts)
like_sign f [] us h = absurd h
like_sign f (t ∷ ts) [] h = absurd h
like_sign f (t ∷ ts) (u ∷ us) (inl e) = some_placed u.at t.at us ts (on_sign f u.kind) (on_sign f t.kind) (ap (on_sign f) e)
like_sign f (t ∷ ts) (u ∷ us) (inr e) = some_placed u.at t.at us ts (on_sign f u.kind) (on_sign f t.kind) (ap (on_sign f) e ∙ on_sign_mended f t.kind)

pub local_sign : {V : Type 0} (f : Sign → Option V) → Local (λ ts. is_some (next_sign f ts))
local_sign f = record { none = refl; same = like_sign f }

like_word : {V : Type 0} (f : Word → Option V) (ts us : List Token) → Alike ts us → is_some (next_word f us) ≡ is_some (next_word f ts)
like_word f [] us h = absurd h
like_word f (t ∷ ts) [] h = absurd h
like_word f (t ∷ ts) (u ∷ us) (inl e) = some_placed u.at t.at us ts (on_word f u.kind) (on_word f t.kind) (ap (on_word f) e)
like_word f (t ∷ ts) (u ∷ us) (inr e) = some_placed u.at t.at us ts (on_word f u.kind) (on_word f t.kind) (ap (on_word f) e ∙ on_word_mended f t.kind)

pub local_word : {V : Type 0} (f : Word → Option V) → Local (λ ts. is_some (next_word f ts))
local_word f = record { none = refl; same = like_word f }

abbrev pub either : {A : Type 0} → (List Token → Bool) → Reader A → Reader A → Reader A
either c p q n ts = if c ts then p n ts else q n ts

abbrev pub Either : {A : Type 0} → Lang A → Lang A → Lang A
Either P Q n a ts = P n a ts ⊎ Q n a ts

module _ {A : Type 0} (c : List Token → Bool) (local : Local c) (p q : Reader A) (P Q : Lang A) where
  first_of_two : (n : ℕ) (ts : List Token) → c ts ≡ true → either c p q n ts ≡ p n ts
  first_of_two n ts h = ap (λ (b : Bool). if b then p n ts else q n ts) h

  second_of_two : (n : ℕ) (ts : List Token) → c ts ≡ false → either c p q n ts ≡ q n ts
  second_of_two n ts h = ap (λ (b : Bool). if b then p n ts else q n ts) h

  pub either_keeps : Keeps p → Keeps q → Keeps (either c p q)
  either_keeps kp kq n ts x e = go (c ts) refl
    where
      go : (b : Bool) → c ts ≡ b → length x.1 ≤ length ts
      go true h = kp n ts x (sym (first_of_two n ts h) ∙ e)
      go false h = kq n ts x (sym (second_of_two n ts h) ∙ e)

  pub either_sound : (n : ℕ) → IsSound p P n → IsSound q Q n → IsSound (either c p q) (Either P Q) n
  either_sound n sp sq ts a rest e = go (c ts) refl
    where
      go : (b : Bool) → c ts ≡ b → Took (either c p q) (Either P Q) n ts a rest
      go true h =
          let one = sp ts a rest (sym (first_of_two n ts h) ∙ e) in
          record {
            front = one.front;
            cut = one.cut;
            spelled = inl one.spelled;
            stable = (λ m other like.
                let test : c (one.front ++ other) ≡ c (one.front ++ rest) = local.same (one.front ++ rest) (one.front ++ other) (alike_front one.front rest other like) in
                first_of_two (deeper m n) (one.front ++ other) (test ∙ sym (ap c one.cut) ∙ h) ∙ one.stable m other like);
          }
      go false h =
          let one = sq ts a rest (sym (second_of_two n ts h) ∙ e) in
          record {
            front = one.front;
            cut = one.cut;
            spelled = inr one.spelled;
            stable = (λ m other like.
                let test : c (one.front ++ other) ≡ c (one.front ++ rest) = local.same (one.front ++ rest) (one.front ++ other) (alike_front one.front rest other like) in
                second_of_two (deeper m n) (one.front ++ other) (test ∙ sym (ap c one.cut) ∙ h) ∙ one.stable m other like);
          }

  pub either_completes : (g : TokenKind → Bool) (n : ℕ) → Completes p P g n → Completes q Q g n → ((a : A) (front rest : List Token) → P n a front → Stops g rest → c (front ++ rest) ≡ true) → ((a : A) (front rest : List Token) → Q n a front → Stops g rest → c (front ++ rest) ≡ false) → Completes (either c p q) (Either P Q) g n
  either_completes g n cp cq at_first at_second a front rest (inl d) stop = first_of_two n (front ++ rest) (at_first a front rest d stop) ∙ cp a front rest d stop
  either_completes g n cp cq at_first at_second a front rest (inr d) stop = second_of_two n (front ++ rest) (at_second a front rest d stop) ∙ cq a front rest d stop

  starts_first : (n : ℕ) (front : List Token) → Starts P n front → Starts (Either P Q) n front
  starts_first n front s = (s.0, s.1, inl s.2)

  starts_second : (n : ℕ) (front : List Token) → Starts Q n front → Starts (Either P Q) n front
  starts_second n front s = (s.0, s.1, inr s.2)

  viable_first : (n : ℕ) (front : List Token) → Viable P n front → Viable (Either P Q) n front
  viable_first n front (inl e) = inl e
  viable_first n front (inr s) = inr (starts_first n front s)

  viable_second : (n : ℕ) (front : List Token) → Viable Q n front → Viable (Either P Q) n front
  viable_second n front (inl e) = inl e
  viable_second n front (inr s) = inr (starts_second n front s)

  fails_first : (n : ℕ) (ts : List Token) → c ts ≡ true → Fails (p n ts) → Fails (either c p q n ts)
  fails_first n ts h k = subst (λ (z : Answer A). Fails z) (sym (first_of_two n ts h)) k

  fails_second : (n : ℕ) (ts : List Token) → c ts ≡ false → Fails (q n ts) → Fails (either c p q n ts)
  fails_second n ts h k = subst (λ (z : Answer A). Fails z) (sym (second_of_two n ts h)) k

  bars_first : (n : ℕ) (front rest : List Token) (why : Cause) → c (front ++ rest) ≡ true → Bars p P n front rest why → Bars (either c p q) (Either P Q) n front rest why
  bars_first n front [] why h b = b
  bars_first n front (t ∷ rest) cause.Unfinished h b = b
  bars_first n front (t ∷ rest) cause.Unexpected h b = λ m more. fails_first (deeper m n) (front ++ (healed t ∷ more)) (local_behind c local front rest t more ∙ h) (b m more)
  bars_first n front (t ∷ rest) cause.Faulty h b = (b.0, starts_first n (front ++ (healed t ∷ [])) b.1)
  bars_first n front (t ∷ rest) cause.TooDeep h b = ((λ more. fails_first n (front ++ (healed t ∷ more)) (local_behind c local front rest t more ∙ h) (b.0 more)), starts_first (suc n) (front ++ (healed t ∷ [])) b.1)

  bars_second : (n : ℕ) (front rest : List Token) (why : Cause) → c (front ++ rest) ≡ false → Bars q Q n front rest why → Bars (either c p q) (Either P Q) n front rest why
  bars_second n front [] why h b = b
  bars_second n front (t ∷ rest) cause.Unfinished h b = b
  bars_second n front (t ∷ rest) cause.Unexpected h b = λ m more. fails_second (deeper m n) (front ++ (healed t ∷ more)) (local_behind c local front rest t more ∙ h) (b m more)
  bars_second n front (t ∷ rest) cause.Faulty h b = (b.0, starts_second n (front ++ (healed t ∷ [])) b.1)
  bars_second n front (t ∷ rest) cause.TooDeep h b = ((λ more. fails_second n (front ++ (healed t ∷ more)) (local_behind c local front rest t more ∙ h) (b.0 more)), starts_second (suc n) (front ++ (healed t ∷ [])) b.1)

  pub either_refuses : (n : ℕ) → IsRefusing p P n → IsRefusing q Q n → IsRefusing (either c p q) (Either P Q) n
  either_refuses n rp rq ts why rest e = go (c ts) refl
    where
      go : (b : Bool) → c ts ≡ b → Barred (either c p q) (Either P Q) n ts why rest
      go true h =
          let b = rp ts why rest (sym (first_of_two n ts h) ∙ e) in
          record { front = b.front; cut = b.cut; viable = viable_first n b.front b.viable; bars = bars_first n b.front rest why (sym (ap c b.cut) ∙ h) b.bars }
      go false h =
          let b = rq ts why rest (sym (second_of_two n ts h) ∙ e) in
          record { front = b.front; cut = b.cut; viable = viable_second n b.front b.viable; bars = bars_second n b.front rest why (sym (ap c b.cut) ∙ h) b.bars }

-- A sign that opens a construct.

abbrev pub less : ℕ → ℕ
less zero = zero
less (suc n) = n

pub deeper_suc : (m n : ℕ) → deeper m (suc n) ≡ suc (deeper m n)
deeper_suc zero n = refl
deeper_suc (suc m) n = ap suc (deeper_suc m n)

abbrev pub opening : {V A : Type 0} → (Sign → Option V) → (ℕ × V → Reader A) → Reader A
opening f p zero ts = expect_sign f ts >>= λ o. Err (cause.TooDeep, ts)
opening f p (suc n) ts = expect_sign f ts >>= λ o. p o.0 n o.1

abbrev pub Opened : {V A : Type 0} → (Sign → Option V) → (ℕ × V → Lang A) → Lang A
Opened f P zero a ts = ⊥
Opened f P (suc n) a ts = Seq (One (at_sign f)) (λ o k. P o (less k)) (suc n) a ts

pub stops_never : (ts : List Token) → Stops never ts
stops_never [] = tt
stops_never (t ∷ ts) = refl

module _ {V A : Type 0} (f : Sign → Option V) (p : ℕ × V → Reader A) (P : ℕ × V → Lang A) where
  abbrev inner : ℕ × V → Reader A
  inner o k ts = p o (less k) ts

  abbrev Inner : ℕ × V → Lang A
  Inner o k a ts = P o (less k) a ts

  shut_fails : (ts : List Token) → Fails (opening f p zero ts)
  shut_fails ts = go (expect_sign f ts)
    where
      go : (r : Answer (ℕ × V)) → Fails (r >>= λ o. wrong {A = A} (cause.TooDeep, ts))
      go (Ok x) = tt
      go (Err e) = tt

  pub opening_keeps : (n : ℕ) → ((o : ℕ × V) (k : ℕ) → n ≡ suc k → Keeps (λ m us. p o k us)) → Keeps (λ m us. opening f p n us)
  opening_keeps zero ks m ts x e = let shut : Fails (opening f p zero ts) = shut_fails ts in absurd (subst (λ (z : Answer A). Fails z) e shut)
  opening_keeps (suc n) ks m ts x e = next_keeps (λ j us. expect_sign f us) (One (at_sign f)) (λ o j us. p o n us) P (sign_keeps f) (λ o. ks o n refl) m ts x e

  pub opening_sound : (n : ℕ) → ((o : ℕ × V) (k : ℕ) → n ≡ suc k → IsSound (p o) (P o) k) → IsSound (opening f p) (Opened f P) n
  opening_sound zero sp ts a rest e = let no : Fails (opening f p zero ts) = shut_fails ts in absurd (subst (λ (z : Answer A). Fails z) e no)
  opening_sound (suc n) sp ts a rest e =
      let one = next_sound (λ m us. expect_sign f us) (One (at_sign f)) inner Inner (suc n) (sign_sound f (suc n)) (λ o us b after h.
      let two = sp o n refl us b after h in
      record { front = two.front; cut = two.cut; spelled = two.spelled; stable = (λ m other like. ap (λ k. p o (less k) (two.front ++ other)) (deeper_suc m n) ∙ two.stable m other like) }) ts a rest e in
      record {
        front = one.front;
        cut = one.cut;
        spelled = one.spelled;
        stable = (λ m other like.
            ap (λ k. opening f p k (one.front ++ other)) (deeper_suc m n) ∙ ap (λ k. next (λ j us. expect_sign f us) inner k (one.front ++ other)) (sym (deeper_suc m n)) ∙ one.stable m other like);
      }

  pub opening_completes : (g : TokenKind → Bool) (n : ℕ) → ((o : ℕ × V) (k : ℕ) → n ≡ suc k → Completes (p o) (P o) g k) → Completes (opening f p) (Opened f P) g n
  opening_completes g zero cp a front rest d stop = absurd d
  opening_completes g (suc n) cp a front rest d stop =
      next_completes (λ m us. expect_sign f us) (One (at_sign f)) inner Inner never g (suc n) (sign_completes f (suc n)) (λ o b ys after h k. cp o n refl b ys after h k) (λ o b ys after h k. stops_never (ys ++ after)) a front rest d stop

  inner_grows : ((o : ℕ × V) → Grows (P o)) → (o : ℕ × V) → Grows (Inner o)
  inner_grows gp o zero a ts d = d
  inner_grows gp o (suc n) a ts d = gp o n a ts d

  pub opening_grows : ((o : ℕ × V) → Grows (P o)) → Grows (Opened f P)
  opening_grows gp zero a ts d = absurd d
  opening_grows gp (suc n) a ts d = next_grows (λ m us. expect_sign f us) (One (at_sign f)) inner Inner (λ m v us o. record { t = o.t; cut = o.cut; is = o.is }) (inner_grows gp) (suc n) a ts d

  inner_bars : (o : ℕ × V) (n : ℕ) (front rest : List Token) (why : Cause) → Bars (p o) (P o) n front rest why → Bars (inner o) (Inner o) (suc n) front rest why
  inner_bars o n front [] why b = b
  inner_bars o n front (t ∷ rest) cause.Unfinished b = b
  inner_bars o n front (t ∷ rest) cause.Unexpected b = λ m more. subst (λ k. Fails (p o (less k) (front ++ (healed t ∷ more)))) (sym (deeper_suc m n)) (b m more)
  inner_bars o n front (t ∷ rest) cause.Faulty b = b
  inner_bars o n front (t ∷ rest) cause.TooDeep b = b

  inner_refuses : (o : ℕ × V) (n : ℕ) → IsRefusing (p o) (P o) n → IsRefusing (inner o) (Inner o) (suc n)
  inner_refuses o n rp ts why rest e =
      let b = rp ts why rest e in
      record { front = b.front; cut = b.cut; viable = b.viable; bars = inner_bars o n b.front rest why b.bars }

  open_bars : (n : ℕ) (front rest : List Token) (why : Cause) → Bars (next (λ j us. expect_sign f us) inner) (Seq (One (at_sign f)) Inner) (suc n) front rest why → Bars (opening f p) (Opened f P) (suc n) front rest why
  open_bars n front [] why b = b
  open_bars n front (t ∷ rest) cause.Unfinished b = b
  open_bars n front (t ∷ rest) cause.Unexpected b = λ m more.
      let ts : List Token = front ++ (healed t ∷ more) in
      subst (λ k. Fails (opening f p k ts)) (sym (deeper_suc m n)) (subst (λ k. Fails (next (λ j us. expect_sign f us) inner k ts)) (deeper_suc m n) (b m more))
  open_bars n front (t ∷ rest) cause.Faulty b = b
  open_bars n front (t ∷ rest) cause.TooDeep b = b

  mark_fails : (k : ℕ) (ts : List Token) → Fails (expect_sign f ts) → Fails (opening f p k ts)
  mark_fails zero ts h = shut_fails ts
  mark_fails (suc k) ts h = bind_fails (expect_sign f ts) (λ o. p o.0 k o.1) h

  none_fails : (o : Option V) (t : Token) (ts : List Token) → o ≡ None → Fails (or_refused {V = ℕ × V} (t ∷ ts) (placing_before t.at ts o))
  none_fails None t ts h = tt
  none_fails (Some v) t ts h = cc

  at_end : Barred (opening f p) (Opened f P) zero [] cause.Unfinished []
  at_end = record { front = []; cut = refl; viable = inl refl; bars = refl }

  unmarked : (t : Token) (us : List Token) → on_sign f t.kind ≡ None → Barred (opening f p) (Opened f P) zero (t ∷ us) cause.Unexpected (t ∷ us)
  unmarked t us h = record {
    front = [];
    cut = refl;
    viable = inl refl;
    bars = (λ m more.
        mark_fails (deeper m zero) (healed t ∷ more) (none_fails (on_sign f (mended t.kind)) (healed t) more (on_sign_mended f t.kind ∙ h)));
  }

  marked : ((o : ℕ × V) → Occurs (P o)) → (t : Token) (us : List Token) (v : V) → on_sign f t.kind ≡ Some v → Barred (opening f p) (Opened f P) zero (t ∷ us) cause.TooDeep (t ∷ us)
  marked occurs t us v h =
      let one = occurs (t.at, v) zero in
      record {
        front = [];
        cut = refl;
        viable = inl refl;
        bars = (
          (λ more. shut_fails (healed t ∷ more)),
          (one.0, one.1, record { first = (t.at, v); xs = healed t ∷ []; ys = one.1; cut = refl; left = record { t = healed t; cut = refl; is = ap (placing t.at) (on_sign_mended f t.kind ∙ h) }; right = one.2 }),
        );
      }

  shut_refuses : ((o : ℕ × V) → Occurs (P o)) → (ts : List Token) (why : Cause) (rest : List Token) → opening f p zero ts ≡ Err (why, rest) → Barred (opening f p) (Opened f P) zero ts why rest
  shut_refuses occurs [] why rest e =
      subst (λ (z : Cause × List Token). Barred (opening f p) (Opened f P) zero [] z.0 z.1) (err_inj {A = A} (opening f p zero []) (cause.Unfinished, []) (why, rest) refl e) at_end
  shut_refuses occurs (t ∷ us) why rest e = go (on_sign f t.kind) refl
    where
      go : (o : Option V) → on_sign f t.kind ≡ o → Barred (opening f p) (Opened f P) zero (t ∷ us) why rest
      go None h =
          let is : opening f p zero (t ∷ us) ≡ Err (cause.Unexpected, t ∷ us) = ap (λ (o : Option V). or_refused {V = ℕ × V} (t ∷ us) (placing_before t.at us o) >>= λ x. wrong {A = A} (cause.TooDeep, t ∷ us)) h in
          subst (λ (z : Cause × List Token). Barred (opening f p) (Opened f P) zero (t ∷ us) z.0 z.1) (err_inj {A = A} (opening f p zero (t ∷ us)) (cause.Unexpected, t ∷ us) (why, rest) is e) (unmarked t us h)
      go (Some v) h =
          let is : opening f p zero (t ∷ us) ≡ Err (cause.TooDeep, t ∷ us) = ap (λ (o : Option V). or_refused {V = ℕ × V} (t ∷ us) (placing_before t.at us o) >>= λ x. wrong {A = A} (cause.TooDeep, t ∷ us)) h in
          subst (λ (z : Cause × List Token). Barred (opening f p) (Opened f P) zero (t ∷ us) z.0 z.1) (err_inj {A = A} (opening f p zero (t ∷ us)) (cause.TooDeep, t ∷ us) (why, rest) is e) (marked occurs t us v h)

  inner_occurs : ((o : ℕ × V) → Occurs (P o)) → (o : ℕ × V) → Occurs (Inner o)
  inner_occurs occurs o n = occurs o (less n)

  pub opening_refuses : (n : ℕ) → ((o : ℕ × V) → Occurs (P o)) → ((o : ℕ × V) (k : ℕ) → n ≡ suc k → IsRefusing (p o) (P o) k) → IsRefusing (opening f p) (Opened f P) n
  opening_refuses zero occurs rp ts why rest e = shut_refuses occurs ts why rest e
  opening_refuses (suc n) occurs rp ts why rest e =
      let b = next_refuses (λ m us. expect_sign f us) (One (at_sign f)) inner Inner (suc n) (λ m v us o. record { t = o.t; cut = o.cut; is = o.is }) (inner_occurs occurs) (sign_sound f (suc n)) (sign_refuses f (suc n)) (λ o. inner_refuses o n (rp o n refl)) ts why rest e in
      record { front = b.front; cut = b.cut; viable = b.viable; bars = open_bars n b.front rest why b.bars }
