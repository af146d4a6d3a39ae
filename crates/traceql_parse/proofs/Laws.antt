-- What a reader promises: it reads what the grammar spells, all that it spells, and refuses at the earliest place.
-- Laws of readers made of readers.
use Rattle.std.proofs.Common.{◌≡◌, ℕ, zero, suc, Bool, false, List, [], ◌∷◌, ◌++◌, Some, Ok, Err, ◌⊎◌, inl, inr, refl, sym, ◌∙◌, ap, subst, append_assoc, length, ◌≤◌, arith}
use Rattle.traceql_tokens.specs.Tokens.{mended, fault_of}
use Rattle.traceql_tokens.specs.declared.kinds.Fault.{Fault}
use Rattle.traceql_tokens.specs.declared.kinds.Token.{Token}
use Rattle.traceql_tokens.specs.declared.kinds.TokenKind.{TokenKind}
use Rattle.traceql_syntax.specs.Refusals.{healed}
use Rattle.traceql_parse.specs.declared.stop.Cause.{Cause}
use Rattle.traceql_parse.specs.declared.stop.Cause.TheVariants as cause
use Rattle.traceql_parse.specs.Reading.{Answer, ◌>>=◌}

-- a reader, where so many constructs may be opened, and what it is to read
abbrev pub Reader : Type 0 → Type 0
Reader A = ℕ → List Token → Answer A

abbrev pub Lang : Type 0 → Type 1
Lang A = ℕ → A → List Token → Type 0

-- the tokens don't begin with one that goes on what was read
abbrev pub Stops : (TokenKind → Bool) → List Token → Type 0
Stops goes [] = Unit {0}
Stops goes (t ∷ ts) = goes t.kind ≡ false

abbrev pub Steady : (TokenKind → Bool) → Type 0
Steady goes = (k : TokenKind) → goes (mended k) ≡ goes k

abbrev pub deeper : ℕ → ℕ → ℕ
deeper zero n = n
deeper (suc m) n = suc (deeper m n)

-- the first tokens agree, but for a fault
abbrev pub Alike : List Token → List Token → Type 0
Alike [] us = ⊥
Alike (t ∷ ts) [] = ⊥
Alike (t ∷ ts) (u ∷ us) = (u.kind ≡ t.kind) ⊎ (u.kind ≡ mended t.kind)

-- What was read is spelled so; and with other tokens after it that begin alike, or where more may be opened, it is
-- read just so.
pub record Took {A : Type 0} (r : Reader A) (L : Lang A) (n : ℕ) (ts : List Token) (a : A) (rest : List Token) : Type 0 where
  pub front : List Token
  pub cut : ts ≡ front ++ rest
  pub spelled : L n a front
  pub stable : (m : ℕ) (other : List Token) → Alike rest other → r (deeper m n) (front ++ other) ≡ Ok (a, other)

abbrev pub IsSound : {A : Type 0} → Reader A → Lang A → ℕ → Type 0
IsSound {A} r L n = (ts : List Token) (a : A) (rest : List Token) → r n ts ≡ Ok (a, rest) → Took r L n ts a rest

-- nothing is put before the tokens that are left
abbrev pub Keeps : {A : Type 0} → Reader A → Type 0
Keeps {A} r = (n : ℕ) (ts : List Token) (x : A × List Token) → r n ts ≡ Ok x → length x.1 ≤ length ts

abbrev pub Completes : {A : Type 0} → Reader A → Lang A → (TokenKind → Bool) → ℕ → Type 0
Completes {A} r L goes n = (a : A) (front rest : List Token) → L n a front → Stops goes rest → r n (front ++ rest) ≡ Ok (a, rest)

abbrev pub Grows : {A : Type 0} → Lang A → Type 0
Grows {A} L = (n : ℕ) (a : A) (ts : List Token) → L n a ts → L (suc n) a ts

abbrev pub Occurs : {A : Type 0} → Lang A → Type 0
Occurs {A} L = (n : ℕ) → (a : A) × (ts : List Token) × L n a ts

abbrev pub Starts : {A : Type 0} → Lang A → ℕ → List Token → Type 0
Starts {A} L n front = (a : A) × (more : List Token) × L n a (front ++ more)

abbrev pub Viable : {A : Type 0} → Lang A → ℕ → List Token → Type 0
Viable L n front = (front ≡ []) ⊎ Starts L n front

abbrev pub Fails : {A : Type 0} → Answer A → Type 0
Fails (Ok x) = ⊥
Fails (Err e) = Unit {0}

abbrev pub IsFaulty : Token → Type 0
IsFaulty t = (f : Fault) × (fault_of t.kind ≡ Some f)

abbrev pub Bars : {A : Type 0} → Reader A → Lang A → ℕ → List Token → List Token → Cause → Type 0
Bars r L n front [] why = why ≡ cause.Unfinished
Bars r L n front (t ∷ rest) cause.Unfinished = ⊥
Bars r L n front (t ∷ rest) cause.Unexpected = (m : ℕ) (more : List Token) → Fails (r (deeper m n) (front ++ (healed t ∷ more)))
Bars r L n front (t ∷ rest) cause.Faulty = IsFaulty t × Starts L n (front ++ (healed t ∷ []))
Bars r L n front (t ∷ rest) cause.TooDeep = ((more : List Token) → Fails (r n (front ++ (healed t ∷ more)))) × Starts L (suc n) (front ++ (healed t ∷ []))

pub record Barred {A : Type 0} (r : Reader A) (L : Lang A) (n : ℕ) (ts : List Token) (why : Cause) (rest : List Token) : Type 0 where
  pub front : List Token
  pub cut : ts ≡ front ++ rest
  pub viable : Viable L n front
  pub bars : Bars r L n front rest why

abbrev pub IsRefusing : {A : Type 0} → Reader A → Lang A → ℕ → Type 0
IsRefusing {A} r L n = (ts : List Token) (why : Cause) (rest : List Token) → r n ts ≡ Err (why, rest) → Barred r L n ts why rest

pub bind_ok : {A B : Type 0} (x : Answer A) (f : A × List Token → Answer B) (y : B × List Token) → (x >>= f) ≡ Ok y → (z : A × List Token) × (x ≡ Ok z) × (f z ≡ Ok y)
bind_ok (Ok z) f y h = (z, refl, h)
bind_ok (Err e) f y h = cc

pub bind_err : {A B : Type 0} (x : Answer A) (f : A × List Token → Answer B) (e : Cause × List Token) → (x >>= f) ≡ Err e → (x ≡ Err e) ⊎ ((z : A × List Token) × (x ≡ Ok z) × (f z ≡ Err e))
bind_err (Ok z) f e h = inr (z, refl, h)
bind_err (Err d) f e h = inl (cc)

pub bind_at_ok : {A B : Type 0} (x : Answer A) (f : A × List Token → Answer B) (z : A × List Token) (w : Answer B) → x ≡ Ok z → f z ≡ w → (x >>= f) ≡ w
bind_at_ok {A = A} x f z w h k = ap (λ (y : Answer A). y >>= f) h ∙ k

pub bind_fails : {A B : Type 0} (x : Answer A) (f : A × List Token → Answer B) → Fails x → Fails (x >>= f)
bind_fails (Ok z) f h = absurd h
bind_fails (Err d) f h = tt

pub bind_fails_later : {A B : Type 0} (x : Answer A) (f : A × List Token → Answer B) (z : A × List Token) → x ≡ Ok z → Fails (f z) → Fails (x >>= f)
bind_fails_later {A = A} x f z h k = subst (λ (y : Answer A). Fails (y >>= f)) (sym h) k

pub alike_front : (front ts us : List Token) → Alike ts us → Alike (front ++ ts) (front ++ us)
alike_front [] ts us h = h
alike_front (t ∷ front) ts us h = inl refl

pub alike_healed : (front : List Token) (t : Token) (rest more : List Token) → Alike (front ++ (t ∷ rest)) (front ++ (healed t ∷ more))
alike_healed front t rest more = alike_front front (t ∷ rest) (healed t ∷ more) (inr refl)

pub grow : {A : Type 0} {L : Lang A} → Grows L → (m n : ℕ) (a : A) (ts : List Token) → L n a ts → L (deeper m n) a ts
grow g zero n a ts d = d
grow {L = L} g (suc m) n a ts d = g (deeper m n) a ts (grow {L = L} g m n a ts d)

-- One reader after another.

pub record Seq {A B : Type 0} (P : Lang A) (F : A → Lang B) (n : ℕ) (b : B) (ts : List Token) : Type 0 where
  pub first : A
  pub xs : List Token
  pub ys : List Token
  pub cut : ts ≡ xs ++ ys
  pub left : P n first xs
  pub right : F first n b ys

abbrev pub next : {A B : Type 0} → Reader A → (A → Reader B) → Reader B
next p f n ts = p n ts >>= λ x. f x.0 n x.1

module _ {A B : Type 0} (p : Reader A) (P : Lang A) (f : A → Reader B) (F : A → Lang B) where
  pub next_keeps : Keeps p → ((a : A) → Keeps (f a)) → Keeps (next p f)
  next_keeps kp kf n ts x e =
      let w = bind_ok (p n ts) (λ z. f z.0 n z.1) x e in
      let one : length w.0.1 ≤ length ts = kp n ts w.0 w.1 in
      let two : length x.1 ≤ length w.0.1 = kf w.0.0 n w.0.1 x w.2 in
      omega arith

  pub next_sound : (n : ℕ) → IsSound p P n → ((a : A) → IsSound (f a) (F a) n) → IsSound (next p f) (Seq P F) n
  next_sound n sp sf ts b rest e =
      let w = bind_ok (p n ts) (λ x. f x.0 n x.1) (b, rest) e in
      let one = sp ts w.0.0 w.0.1 w.1 in
      let two = sf w.0.0 w.0.1 b rest w.2 in
      record {
        front = one.front ++ two.front;
        cut = one.cut ∙ ap (λ (z : List Token). one.front ++ z) two.cut ∙ sym (append_assoc one.front two.front rest);
        spelled = record { first = w.0.0; xs = one.front; ys = two.front; cut = refl; left = one.spelled; right = two.spelled };
        stable = (λ m other like.
            let behind : Alike w.0.1 (two.front ++ other) = subst (λ (z : List Token). Alike z (two.front ++ other)) (sym two.cut) (alike_front two.front rest other like) in
            bind_at_ok (p (deeper m n) ((one.front ++ two.front) ++ other)) (λ x. f x.0 (deeper m n) x.1) (w.0.0, two.front ++ other) (Ok (b, other))
            (ap (p (deeper m n)) (append_assoc one.front two.front other) ∙ one.stable m (two.front ++ other) behind) (two.stable m other like));
      }

  pub next_completes : (g h : TokenKind → Bool) (n : ℕ) → Completes p P g n → ((a : A) → Completes (f a) (F a) h n) → ((a : A) (b : B) (ys rest : List Token) → F a n b ys → Stops h rest → Stops g (ys ++ rest)) → Completes (next p f) (Seq P F) h n
  next_completes g h n cp cf apart b front rest s stop =
      let at : front ++ rest ≡ s.xs ++ (s.ys ++ rest) = ap (λ (z : List Token). z ++ rest) s.cut ∙ append_assoc s.xs s.ys rest in
      let one : p n (s.xs ++ (s.ys ++ rest)) ≡ Ok (s.first, s.ys ++ rest) = cp s.first s.xs (s.ys ++ rest) s.left (apart s.first b s.ys rest s.right stop) in
      let two : f s.first n (s.ys ++ rest) ≡ Ok (b, rest) = cf s.first b s.ys rest s.right stop in
      bind_at_ok (p n (front ++ rest)) (λ x. f x.0 n x.1) (s.first, s.ys ++ rest) (Ok (b, rest)) (ap (p n) at ∙ one) two

  pub next_grows : Grows P → ((a : A) → Grows (F a)) → Grows (Seq P F)
  next_grows gp gf n b ts s = record { first = s.first; xs = s.xs; ys = s.ys; cut = s.cut; left = gp n s.first s.xs s.left; right = gf s.first n b s.ys s.right }

  pub next_occurs : Occurs P → ((a : A) → Occurs (F a)) → Occurs (Seq P F)
  next_occurs op of n =
      let one = op n in
      let two = of one.0 n in
      (two.0, one.1 ++ two.1, record { first = one.0; xs = one.1; ys = two.1; cut = refl; left = one.2; right = two.2 })

  pub seq_from_left : ((a : A) → Occurs (F a)) → (n : ℕ) (front : List Token) → Starts P n front → Starts (Seq P F) n front
  seq_from_left some n front s =
      let o = some s.0 n in
      (o.0, s.1 ++ o.1, record { first = s.0; xs = front ++ s.1; ys = o.1; cut = sym (append_assoc front s.1 o.1); left = s.2; right = o.2 })

  pub seq_from_right : (n : ℕ) (a : A) (xs front : List Token) → P n a xs → Starts (F a) n front → Starts (Seq P F) n (xs ++ front)
  seq_from_right n a xs front d s = (s.0, s.1, record { first = a; xs = xs; ys = front ++ s.1; cut = append_assoc xs front s.1; left = d; right = s.2 })

  left_bars : ((a : A) → Occurs (F a)) → (n : ℕ) (front rest : List Token) (why : Cause) → Bars p P n front rest why → Bars (next p f) (Seq P F) n front rest why
  left_bars some n front [] why b = b
  left_bars some n front (t ∷ rest) cause.Unfinished b = b
  left_bars some n front (t ∷ rest) cause.Unexpected b = λ m more. bind_fails (p (deeper m n) (front ++ (healed t ∷ more))) (λ x. f x.0 (deeper m n) x.1) (b m more)
  left_bars some n front (t ∷ rest) cause.Faulty b = (b.0, seq_from_left some n (front ++ (healed t ∷ [])) b.1)
  left_bars some n front (t ∷ rest) cause.TooDeep b = ((λ more. bind_fails (p n (front ++ (healed t ∷ more))) (λ x. f x.0 n x.1) (b.0 more)), seq_from_left some (suc n) (front ++ (healed t ∷ [])) b.1)

  -- after what the first reads, the second is at work
  later : (n m : ℕ) (ts : List Token) (a : A) (after front : List Token) (t : Token) (rest : List Token) (one : Took p P n ts a after) → after ≡ front ++ (t ∷ rest) → (more : List Token) → Fails (f a (deeper m n) (front ++ (healed t ∷ more))) → Fails (next p f (deeper m n) ((one.front ++ front) ++ (healed t ∷ more)))
  later n m ts a after front t rest one cut more k =
      let tail : List Token = front ++ (healed t ∷ more) in
      let like : Alike after tail = subst (λ (z : List Token). Alike z tail) (sym cut) (alike_healed front t rest more) in
      bind_fails_later (p (deeper m n) ((one.front ++ front) ++ (healed t ∷ more))) (λ x. f x.0 (deeper m n) x.1) (a, tail)
      (ap (p (deeper m n)) (append_assoc one.front front (healed t ∷ more)) ∙ one.stable m tail like) k

  right_bars : Grows P → (n : ℕ) (ts : List Token) (a : A) (after front rest : List Token) (why : Cause) (one : Took p P n ts a after) → after ≡ front ++ rest → Bars (f a) (F a) n front rest why → Bars (next p f) (Seq P F) n (one.front ++ front) rest why
  right_bars gp n ts a after front [] why one cut b = b
  right_bars gp n ts a after front (t ∷ rest) cause.Unfinished one cut b = b
  right_bars gp n ts a after front (t ∷ rest) cause.Unexpected one cut b = λ m more. later n m ts a after front t rest one cut more (b m more)
  right_bars gp n ts a after front (t ∷ rest) cause.Faulty one cut b =
      (b.0, subst (λ (z : List Token). Starts (Seq P F) n z) (sym (append_assoc one.front front (healed t ∷ []))) (seq_from_right n a one.front (front ++ (healed t ∷ [])) one.spelled b.1))
  right_bars gp n ts a after front (t ∷ rest) cause.TooDeep one cut b = (
    (λ more. later n zero ts a after front t rest one cut more (b.0 more)),
    subst (λ (z : List Token). Starts (Seq P F) (suc n) z) (sym (append_assoc one.front front (healed t ∷ []))) (seq_from_right (suc n) a one.front (front ++ (healed t ∷ [])) (gp n a one.front one.spelled) b.1),
  )

  right_viable : ((a : A) → Occurs (F a)) → (n : ℕ) (a : A) (xs front : List Token) → P n a xs → Viable (F a) n front → Viable (Seq P F) n (xs ++ front)
  right_viable some n a xs front d (inl e) =
      let o = some a n in
      inr (o.0, o.1, record { first = a; xs = xs; ys = o.1; cut = ap (λ (z : List Token). (xs ++ z) ++ o.1) e ∙ append_assoc xs [] o.1; left = d; right = o.2 })
  right_viable some n a xs front d (inr s) = inr (seq_from_right n a xs front d s)

  left_viable : ((a : A) → Occurs (F a)) → (n : ℕ) (front : List Token) → Viable P n front → Viable (Seq P F) n front
  left_viable some n front (inl e) = inl e
  left_viable some n front (inr s) = inr (seq_from_left some n front s)

  pub next_refuses : (n : ℕ) → Grows P → ((a : A) → Occurs (F a)) → IsSound p P n → IsRefusing p P n → ((a : A) → IsRefusing (f a) (F a) n) → IsRefusing (next p f) (Seq P F) n
  next_refuses n gp some sp rp rf ts why rest e = go (bind_err (p n ts) (λ x. f x.0 n x.1) (why, rest) e)
    where
      go : (p n ts ≡ Err (why, rest)) ⊎ ((z : A × List Token) × (p n ts ≡ Ok z) × (f z.0 n z.1 ≡ Err (why, rest))) → Barred (next p f) (Seq P F) n ts why rest
      go (inl k) =
          let b = rp ts why rest k in
          record { front = b.front; cut = b.cut; viable = left_viable some n b.front b.viable; bars = left_bars some n b.front rest why b.bars }
      go (inr w) =
          let one = sp ts w.0.0 w.0.1 w.1 in
          let b = rf w.0.0 w.0.1 why rest w.2 in
          record {
            front = one.front ++ b.front;
            cut = one.cut ∙ ap (λ (z : List Token). one.front ++ z) b.cut ∙ sym (append_assoc one.front b.front rest);
            viable = right_viable some n w.0.0 one.front b.front one.spelled b.viable;
            bars = right_bars gp n ts w.0.0 w.0.1 b.front rest why one b.cut b.bars;
          }
