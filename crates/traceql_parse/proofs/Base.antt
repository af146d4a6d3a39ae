-- The laws of the smallest readers: one token, a choice by the first token, another view of what is read.
use Rattle.std.proofs.Common.{◌≡◌, ℕ, suc, ◌≤◌, Bool, false, List, [], ◌∷◌, ◌++◌, length, Option, Some, None, option_map, Ok, Err, ◌⊎◌, inl, inr, refl, sym, ◌∙◌, ap, subst, arith}
use Rattle.traceql_tokens.specs.Tokens.{mended, fault_of}
use Rattle.traceql_tokens.specs.declared.fixed.Sign.{Sign}
use Rattle.traceql_tokens.specs.declared.fixed.Word.{Word}
use Rattle.traceql_tokens.specs.declared.kinds.Class.TheVariants as class
use Rattle.traceql_tokens.specs.declared.kinds.Fault.{Fault}
use Rattle.traceql_tokens.specs.declared.kinds.Token.{Token}
use Rattle.traceql_tokens.specs.declared.kinds.TokenKind.{TokenKind}
use Rattle.traceql_tokens.specs.declared.kinds.TokenKind.TheVariants as token
use Rattle.traceql_syntax.specs.Refusals.{healed}
use Rattle.traceql_syntax.specs.Tables.{on_sign, on_word}
use Rattle.traceql_parse.specs.declared.stop.Cause.{Cause}
use Rattle.traceql_parse.specs.declared.stop.Cause.TheVariants as cause
use Rattle.traceql_parse.specs.Reading.{Answer, ◌>>=◌, expect, expect_sign, expect_word, judged, blame, or_refused}
use Rattle.traceql_parse.proofs.Laws.{Reader, Lang, deeper, Alike, IsSound, Keeps, Completes, Grows, Occurs, Starts, Viable, Fails, IsFaulty, Bars, Barred, IsRefusing, bind_ok, bind_err, bind_at_ok, bind_fails}

abbrev pub never : TokenKind → Bool
never k = false

-- a token has a fault, or mending leaves it as it is
pub broken_or_same : (k : TokenKind) → ((f : Fault) × (fault_of k ≡ Some f)) ⊎ (mended k ≡ k)
broken_or_same (token.Broken c f) = inl (f, refl)
broken_or_same (token.Mark s) = inr refl
broken_or_same (token.Keyword w) = inr refl
broken_or_same (token.Builtin i) = inr refl
broken_or_same (token.Named s name) = inr refl
broken_or_same (token.Quoted text) = inr refl
broken_or_same (token.Number n) = inr refl
broken_or_same (token.Duration n) = inr refl
broken_or_same token.Nameless = inr refl
broken_or_same token.Unknown = inr refl

pub on_sign_mended : {V : Type 0} (f : Sign → Option V) (k : TokenKind) → on_sign f (mended k) ≡ on_sign f k
on_sign_mended f (token.Broken class.Quoted x) = refl
on_sign_mended f (token.Broken class.Number x) = refl
on_sign_mended f (token.Broken class.Duration x) = refl
on_sign_mended f (token.Broken class.Attribute x) = refl
on_sign_mended f (token.Mark s) = refl
on_sign_mended f (token.Keyword w) = refl
on_sign_mended f (token.Builtin i) = refl
on_sign_mended f (token.Named s name) = refl
on_sign_mended f (token.Quoted text) = refl
on_sign_mended f (token.Number n) = refl
on_sign_mended f (token.Duration n) = refl
on_sign_mended f token.Nameless = refl
on_sign_mended f token.Unknown = refl

pub on_word_mended : {V : Type 0} (f : Word → Option V) (k : TokenKind) → on_word f (mended k) ≡ on_word f k
on_word_mended f (token.Broken class.Quoted x) = refl
on_word_mended f (token.Broken class.Number x) = refl
on_word_mended f (token.Broken class.Duration x) = refl
on_word_mended f (token.Broken class.Attribute x) = refl
on_word_mended f (token.Mark s) = refl
on_word_mended f (token.Keyword w) = refl
on_word_mended f (token.Builtin i) = refl
on_word_mended f (token.Named s name) = refl
on_word_mended f (token.Quoted text) = refl
on_word_mended f (token.Number n) = refl
on_word_mended f (token.Duration n) = refl
on_word_mended f token.Nameless = refl
on_word_mended f token.Unknown = refl

pub err_inj : {A : Type 0} (r : Answer A) (x y : Cause × List Token) → r ≡ Err x → r ≡ Err y → x ≡ y
err_inj r x y h k = cc

abbrev pub right : {A : Type 0} → A × List Token → Answer A
right x = Ok x

abbrev pub wrong : {A : Type 0} → Cause × List Token → Answer A
wrong e = Err e

pub not_err : {A C : Type 0} (x : A × List Token) (y : Cause × List Token) → right x ≡ Err y → C
not_err x y h = cc

pub ok_inj : {A : Type 0} (r : Answer A) (x y : A × List Token) → r ≡ Ok x → r ≡ Ok y → x ≡ y
ok_inj r x y h k = cc

-- One token.

abbrev pub Test : Type 0 → Type 0
Test V = ℕ → TokenKind → Option V

pub record One {V : Type 0} (test : Test V) (n : ℕ) (v : V) (ts : List Token) : Type 0 where
  pub t : Token
  pub cut : ts ≡ t ∷ []
  pub is : test t.at t.kind ≡ Some v

judged_ok : {V : Type 0} (o w : Option V) (t : Token) (us : List Token) (v : V) (rest : List Token) → judged o w t us ≡ Ok (v, rest) → (o ≡ Some v) × (us ≡ rest)
judged_ok {V = V} (Some x) w t us v rest h =
    let e : ◌≡◌ {A = V × List Token} (x, us) (v, rest) = ok_inj (judged (Some x) w t us) (x, us) (v, rest) refl h in
    (ap (λ (z : V × List Token). Some z.0) e, ap (λ (z : V × List Token). z.1) e)
judged_ok None w t us v rest h = cc

pub one_token : {V : Type 0} → Test V → Reader V
one_token test n ts = expect test ts

module _ {V : Type 0} (test : Test V) where
  one : Reader V
  one n ts = expect test ts

  pub one_keeps : Keeps (λ m ts. expect test ts)
  one_keeps n [] x e = cc
  one_keeps n (t ∷ us) x e =
      let w = judged_ok (test t.at t.kind) (test t.at (mended t.kind)) t us x.0 x.1 e in
      let same : length us ≡ length x.1 = ap length w.1 in
      omega arith

  accepts : (o w : Option V) (t : Token) (us : List Token) (v : V) → o ≡ Some v → judged o w t us ≡ Ok (v, us)
  accepts o w t us v h = ap (λ (x : Option V). judged x w t us) h

  pub one_sound : (n : ℕ) → IsSound (λ m ts. expect test ts) (One test) n
  one_sound n [] v rest e = cc
  one_sound n (t ∷ us) v rest e =
      let w = judged_ok (test t.at t.kind) (test t.at (mended t.kind)) t us v rest e in
      record {
        front = t ∷ [];
        cut = ap (λ (z : List Token). t ∷ z) w.1;
        spelled = record { t = t; cut = refl; is = w.0 };
        stable = (λ m other like. accepts (test t.at t.kind) (test t.at (mended t.kind)) t other v w.0);
      }

  pub one_completes : (n : ℕ) → Completes (λ m ts. expect test ts) (One test) never n
  one_completes n v front rest o stop =
      ap (λ (z : List Token). expect test (z ++ rest)) o.cut ∙ ap (λ (x : Option V). judged x (test o.t.at (mended o.t.kind)) o.t rest) o.is

  pub one_grows : Grows (One test)
  one_grows n v ts o = record { t = o.t; cut = o.cut; is = o.is }

  refused_at_end : (n : ℕ) → Barred (λ m ts. expect test ts) (One test) n [] cause.Unfinished []
  refused_at_end n = record { front = []; cut = refl; viable = inl refl; bars = refl }

  fails_mended : (o w : Option V) (t : Token) (us : List Token) → o ≡ None → Fails (judged o w t us)
  fails_mended None w t us h = tt
  fails_mended (Some v) w t us h = cc

  is_faulty : (t : Token) (v : V) → test t.at t.kind ≡ None → test t.at (mended t.kind) ≡ Some v → IsFaulty t
  is_faulty t v h k = go (broken_or_same t.kind)
    where
      go : ((f : Fault) × (fault_of t.kind ≡ Some f)) ⊎ (mended t.kind ≡ t.kind) → IsFaulty t
      go (inl f) = f
      go (inr e) = let same : test t.at (mended t.kind) ≡ test t.at t.kind = ap (test t.at) e in cc

  refused_at : (n : ℕ) (t : Token) (us : List Token) → test t.at t.kind ≡ None → (w : Option V) → test t.at (mended t.kind) ≡ w → Barred (λ m ts. expect test ts) (One test) n (t ∷ us) (blame w) (t ∷ us)
  refused_at n t us h None k = record { front = []; cut = refl; viable = inl refl; bars = (λ m more. fails_mended (test t.at (mended t.kind)) (test t.at (mended (mended t.kind))) (healed t) more k) }
  refused_at n t us h (Some v) k = record { front = []; cut = refl; viable = inl refl; bars = (is_faulty t v h k, (v, [], record { t = healed t; cut = refl; is = k })) }

  judged_err : (n : ℕ) (o : Option V) (t : Token) (us : List Token) (why : Cause) (rest : List Token) → test t.at t.kind ≡ o → judged o (test t.at (mended t.kind)) t us ≡ Err (why, rest) → Barred (λ m ts. expect test ts) (One test) n (t ∷ us) why rest
  judged_err n (Some v) t us why rest h e = cc
  judged_err n None t us why rest h e =
      subst (λ (z : Cause × List Token). Barred (λ m ts. expect test ts) (One test) n (t ∷ us) z.0 z.1) (err_inj {A = V} (judged None (test t.at (mended t.kind)) t us) (blame (test t.at (mended t.kind)), t ∷ us) (why, rest) refl e)
      (refused_at n t us h (test t.at (mended t.kind)) refl)

  pub one_refuses : (n : ℕ) → IsRefusing (λ m ts. expect test ts) (One test) n
  one_refuses n [] why rest e =
      subst (λ (z : Cause × List Token). Barred (λ m ts. expect test ts) (One test) n [] z.0 z.1) (err_inj {A = V} (expect test []) (cause.Unfinished, []) (why, rest) refl e) (refused_at_end n)
  one_refuses n (t ∷ us) why rest e = judged_err n (test t.at t.kind) t us why rest refl e

-- A reader that reads what another does.

module _ {A : Type 0} (r p : Reader A) (L : Lang A) (same : (n : ℕ) (ts : List Token) → r n ts ≡ p n ts) where
  pub same_keeps : Keeps p → Keeps r
  same_keeps k n ts x e = k n ts x (sym (same n ts) ∙ e)

  pub same_sound : (n : ℕ) → IsSound p L n → IsSound r L n
  same_sound n s ts a rest e =
      let one = s ts a rest (sym (same n ts) ∙ e) in
      record { front = one.front; cut = one.cut; spelled = one.spelled; stable = (λ m other like. same (deeper m n) (one.front ++ other) ∙ one.stable m other like) }

  pub same_completes : (g : TokenKind → Bool) (n : ℕ) → Completes p L g n → Completes r L g n
  same_completes g n c a front rest d stop = same n (front ++ rest) ∙ c a front rest d stop

  fails_same : (n : ℕ) (ts : List Token) → Fails (p n ts) → Fails (r n ts)
  fails_same n ts h = subst (λ (z : Answer A). Fails z) (sym (same n ts)) h

  bars_same : (n : ℕ) (front rest : List Token) (why : Cause) → Bars p L n front rest why → Bars r L n front rest why
  bars_same n front [] why b = b
  bars_same n front (t ∷ rest) cause.Unfinished b = b
  bars_same n front (t ∷ rest) cause.Unexpected b = λ m more. fails_same (deeper m n) (front ++ (healed t ∷ more)) (b m more)
  bars_same n front (t ∷ rest) cause.Faulty b = b
  bars_same n front (t ∷ rest) cause.TooDeep b = ((λ more. fails_same n (front ++ (healed t ∷ more)) (b.0 more)), b.1)

  pub same_refuses : (n : ℕ) → IsRefusing p L n → IsRefusing r L n
  same_refuses n q ts why rest e =
      let b = q ts why rest (sym (same n ts) ∙ e) in
      record { front = b.front; cut = b.cut; viable = b.viable; bars = bars_same n b.front rest why b.bars }

-- A sign and a word.

abbrev pub at_sign : {V : Type 0} → (Sign → Option V) → Test (ℕ × V)
at_sign f at k = option_map (λ v. (at, v)) (on_sign f k)

abbrev pub at_word : {V : Type 0} → (Word → Option V) → Test (ℕ × V)
at_word f at k = option_map (λ v. (at, v)) (on_word f k)

abbrev pub placing : {V : Type 0} → ℕ → Option V → Option (ℕ × V)
placing at o = option_map (λ v. (at, v)) o

abbrev pub placing_before : {V : Type 0} → ℕ → List Token → Option V → Option ((ℕ × V) × List Token)
placing_before at us o = option_map (λ v. ((at, v), us)) o

judged_marks : {V : Type 0} (o : Option V) (t : Token) (us : List Token) → or_refused {V = ℕ × V} (t ∷ us) (placing_before t.at us o) ≡ judged (placing t.at o) (placing t.at o) t us
judged_marks (Some v) t us = refl
judged_marks None t us = refl

pub sign_is_one : {V : Type 0} (f : Sign → Option V) (ts : List Token) → expect_sign f ts ≡ expect (at_sign f) ts
sign_is_one f [] = refl
sign_is_one {V = V} f (t ∷ us) =
    judged_marks (on_sign f t.kind) t us ∙ ap (λ (o : Option V). judged (placing t.at (on_sign f t.kind)) (placing t.at o) t us) (sym (on_sign_mended f t.kind))

pub word_is_one : {V : Type 0} (f : Word → Option V) (ts : List Token) → expect_word f ts ≡ expect (at_word f) ts
word_is_one f [] = refl
word_is_one {V = V} f (t ∷ us) =
    judged_marks (on_word f t.kind) t us ∙ ap (λ (o : Option V). judged (placing t.at (on_word f t.kind)) (placing t.at o) t us) (sym (on_word_mended f t.kind))

module _ {V : Type 0} (f : Sign → Option V) where
  pub sign_keeps : Keeps (λ m ts. expect_sign f ts)
  sign_keeps = same_keeps (λ m ts. expect_sign f ts) (λ m ts. expect (at_sign f) ts) (One (at_sign f)) (λ m ts. sign_is_one f ts) (one_keeps (at_sign f))

  pub sign_sound : (n : ℕ) → IsSound (λ m ts. expect_sign f ts) (One (at_sign f)) n
  sign_sound n = same_sound (λ m ts. expect_sign f ts) (λ m ts. expect (at_sign f) ts) (One (at_sign f)) (λ m ts. sign_is_one f ts) n (one_sound (at_sign f) n)

  pub sign_completes : (n : ℕ) → Completes (λ m ts. expect_sign f ts) (One (at_sign f)) never n
  sign_completes n = same_completes (λ m ts. expect_sign f ts) (λ m ts. expect (at_sign f) ts) (One (at_sign f)) (λ m ts. sign_is_one f ts) never n (one_completes (at_sign f) n)

  pub sign_refuses : (n : ℕ) → IsRefusing (λ m ts. expect_sign f ts) (One (at_sign f)) n
  sign_refuses n = same_refuses (λ m ts. expect_sign f ts) (λ m ts. expect (at_sign f) ts) (One (at_sign f)) (λ m ts. sign_is_one f ts) n (one_refuses (at_sign f) n)

module _ {V : Type 0} (f : Word → Option V) where
  pub word_keeps : Keeps (λ m ts. expect_word f ts)
  word_keeps = same_keeps (λ m ts. expect_word f ts) (λ m ts. expect (at_word f) ts) (One (at_word f)) (λ m ts. word_is_one f ts) (one_keeps (at_word f))

  pub word_sound : (n : ℕ) → IsSound (λ m ts. expect_word f ts) (One (at_word f)) n
  word_sound n = same_sound (λ m ts. expect_word f ts) (λ m ts. expect (at_word f) ts) (One (at_word f)) (λ m ts. word_is_one f ts) n (one_sound (at_word f) n)

  pub word_completes : (n : ℕ) → Completes (λ m ts. expect_word f ts) (One (at_word f)) never n
  word_completes n = same_completes (λ m ts. expect_word f ts) (λ m ts. expect (at_word f) ts) (One (at_word f)) (λ m ts. word_is_one f ts) never n (one_completes (at_word f) n)

  pub word_refuses : (n : ℕ) → IsRefusing (λ m ts. expect_word f ts) (One (at_word f)) n
  word_refuses n = same_refuses (λ m ts. expect_word f ts) (λ m ts. expect (at_word f) ts) (One (at_word f)) (λ m ts. word_is_one f ts) n (one_refuses (at_word f) n)

-- Another view of what is read.

pub record Image {A B : Type 0} (h : A → B) (P : Lang A) (n : ℕ) (b : B) (ts : List Token) : Type 0 where
  pub of : A
  pub is : b ≡ h of
  pub spelled : P n of ts

abbrev pub mapped : {A B : Type 0} → (A → B) → Reader A → Reader B
mapped h p n ts = p n ts >>= λ x. Ok (h x.0, x.1)

module _ {A B : Type 0} (h : A → B) (p : Reader A) (P : Lang A) where
  image_is : (n : ℕ) (ts : List Token) (b : B) (rest : List Token) (z : A × List Token) → right (h z.0, z.1) ≡ Ok (b, rest) → (b ≡ h z.0) × (z.1 ≡ rest)
  image_is n ts b rest z e =
      let same : ◌≡◌ {A = B × List Token} (h z.0, z.1) (b, rest) = ok_inj {A = B} (Ok (h z.0, z.1)) (h z.0, z.1) (b, rest) refl e in
      (sym (ap (λ (z : B × List Token). z.0) same), ap (λ (z : B × List Token). z.1) same)

  pub mapped_keeps : Keeps p → Keeps (mapped h p)
  mapped_keeps k n ts x e =
      let w = bind_ok (p n ts) (λ z. Ok (h z.0, z.1)) x e in
      let is = image_is n ts x.0 x.1 w.0 w.2 in
      let one : length w.0.1 ≤ length ts = k n ts w.0 w.1 in
      let two : length w.0.1 ≡ length x.1 = ap length is.1 in
      omega arith

  pub mapped_sound : (n : ℕ) → IsSound p P n → IsSound (mapped h p) (Image h P) n
  mapped_sound n s ts b rest e =
      let w = bind_ok (p n ts) (λ x. Ok (h x.0, x.1)) (b, rest) e in
      let took = s ts w.0.0 w.0.1 w.1 in
      let is = image_is n ts b rest w.0 w.2 in
      record {
        front = took.front;
        cut = took.cut ∙ ap (λ (z : List Token). took.front ++ z) is.1;
        spelled = record { of = w.0.0; is = is.0; spelled = took.spelled };
        stable = (λ m other like.
            bind_at_ok (p (deeper m n) (took.front ++ other)) (λ x. Ok (h x.0, x.1)) (w.0.0, other) (Ok (b, other))
            (took.stable m other (subst (λ (z : List Token). Alike z other) (sym is.1) like)) (ap (λ (z : B). Ok (z, other)) (sym is.0)));
      }

  pub mapped_completes : (g : TokenKind → Bool) (n : ℕ) → Completes p P g n → Completes (mapped h p) (Image h P) g n
  mapped_completes g n c b front rest i stop =
      bind_at_ok (p n (front ++ rest)) (λ x. Ok (h x.0, x.1)) (i.of, rest) (Ok (b, rest)) (c i.of front rest i.spelled stop) (ap (λ (z : B). Ok (z, rest)) (sym i.is))

  pub mapped_occurs : Occurs P → Occurs (Image h P)
  mapped_occurs o n = let one = o n in (h one.0, one.1, record { of = one.0; is = refl; spelled = one.2 })

  pub mapped_grows : Grows P → Grows (Image h P)
  mapped_grows gp n b ts i = record { of = i.of; is = i.is; spelled = gp n i.of ts i.spelled }

  pub mapped_starts : (n : ℕ) (front : List Token) → Starts P n front → Starts (Image h P) n front
  mapped_starts n front s = (h s.0, s.1, record { of = s.0; is = refl; spelled = s.2 })

  mapped_viable : (n : ℕ) (front : List Token) → Viable P n front → Viable (Image h P) n front
  mapped_viable n front (inl e) = inl e
  mapped_viable n front (inr s) = inr (mapped_starts n front s)

  mapped_bars : (n : ℕ) (front rest : List Token) (why : Cause) → Bars p P n front rest why → Bars (mapped h p) (Image h P) n front rest why
  mapped_bars n front [] why b = b
  mapped_bars n front (t ∷ rest) cause.Unfinished b = b
  mapped_bars n front (t ∷ rest) cause.Unexpected b = λ m more. bind_fails (p (deeper m n) (front ++ (healed t ∷ more))) (λ x. Ok (h x.0, x.1)) (b m more)
  mapped_bars n front (t ∷ rest) cause.Faulty b = (b.0, mapped_starts n (front ++ (healed t ∷ [])) b.1)
  mapped_bars n front (t ∷ rest) cause.TooDeep b = ((λ more. bind_fails (p n (front ++ (healed t ∷ more))) (λ x. Ok (h x.0, x.1)) (b.0 more)), mapped_starts (suc n) (front ++ (healed t ∷ [])) b.1)

  pub mapped_refuses : (n : ℕ) → IsRefusing p P n → IsRefusing (mapped h p) (Image h P) n
  mapped_refuses n q ts why rest e = go (bind_err (p n ts) (λ x. Ok (h x.0, x.1)) (why, rest) e)
    where
      go : (p n ts ≡ Err (why, rest)) ⊎ ((z : A × List Token) × (p n ts ≡ Ok z) × (right (h z.0, z.1) ≡ Err (why, rest))) → Barred (mapped h p) (Image h P) n ts why rest
      go (inl k) = let b = q ts why rest k in record { front = b.front; cut = b.cut; viable = mapped_viable n b.front b.viable; bars = mapped_bars n b.front rest why b.bars }
      go (inr w) = not_err (h w.0.0, w.0.1) (why, rest) w.2
