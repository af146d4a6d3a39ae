-- A drill compacts until a compaction joins no blocks.
use Rattle.std.proofs.Common.{◌≡◌, ◌⊎◌, inl, inr, ℕ, ◌<◌, Bool, true, false, List, [], ◌∷◌, ◌++◌, Option, Ok, length, length-append, append_assoc, refl, sym, subst, arith}
use Rattle.session_text.specs.declared.reply.Reply.{Reply}
use Rattle.session_text.specs.declared.request.Request.TheVariants.{Compact, Reclaim}
use Rattle.session_text.specs.Items.{Item}
use Rattle.session_meaning.specs.At.{At}
use Rattle.session_meaning.specs.Drill.{Drills}
use Rattle.session_meaning.specs.Ingest.{AreJoined, is_joined}
use Rattle.session_meaning.specs.Session.{Session}
use Rattle.session_meaning.proofs.IngestRounds.{joined_end}

-- A session is the sessions of its parts.
split_at : (told : Bool) (xs ys : List Item) (rs ss : List Reply) (first last : At) → length rs ≡ length xs → Session told first (xs ++ ys) (rs ++ ss) last
    → (mid : At) × Session told first xs rs mid × Session told mid ys ss last
split_at told [] ys [] ss first last size s = (first, (refl, refl), s)
split_at told [] ys (r ∷ rs) ss first last size s = absurd (omega (arith, size))
split_at told (x ∷ xs) ys [] ss first last size s = absurd (omega (arith, size))
split_at told (x ∷ xs) ys (r ∷ rs) ss first last size (between, here, rest) =
    let more = split_at told xs ys rs ss between last (omega (arith, size)) rest in
    (more.0, (between, here, more.1), more.2)

joined_more : (xs : List Item) (rs : List Reply) (reply : Reply) → length rs ≡ length xs → AreJoined xs rs → is_joined reply ≡ true
    → AreJoined (xs ++ Ok Compact ∷ []) (rs ++ reply ∷ [])
joined_more [] [] reply size joined is = (refl, is, tt)
joined_more [] (r ∷ rs) reply size joined is = absurd (omega (arith, size))
joined_more (x ∷ xs) [] reply size joined is = absurd joined
joined_more (x ∷ xs) (r ∷ rs) reply size joined is = (joined.0, joined.1, joined_more xs rs reply (omega (arith, size)) joined.2 is)

module _ (sure : Bool) (seed traces : ℕ) (told to_tell : Option (List ℕ)) (items : List Item) (replies : List Reply) (refused : List (List ℕ)) (first last : At)
    (d : Drills seed traces told items replies refused to_tell) (all : Session sure first items replies last) where
  whole : Session sure first (d.pushes ++ (d.compactions ++ Ok Compact ∷ Ok Reclaim ∷ d.searches)) (d.pushed ++ (d.joined ++ d.last ∷ d.emptied ∷ d.found)) last
  whole =
      subst (λ (rs : List Reply). Session sure first (d.pushes ++ (d.compactions ++ Ok Compact ∷ Ok Reclaim ∷ d.searches)) rs last) d.replies_are
      (subst (λ (is : List Item). Session sure first is replies last) d.items_are all)

  not_for_ever : length d.compactions ≡ 4294967294 → is_joined d.last ≡ true → ⊥
  not_for_ever many is =
      let one = split_at sure d.pushes (d.compactions ++ Ok Compact ∷ Ok Reclaim ∷ d.searches) d.pushed (d.joined ++ d.last ∷ d.emptied ∷ d.found) first last d.are_pushed whole in
      let rest : Session sure one.0 ((d.compactions ++ Ok Compact ∷ []) ++ Ok Reclaim ∷ d.searches) ((d.joined ++ d.last ∷ []) ++ d.emptied ∷ d.found) last =
      subst (λ (rs : List Reply). Session sure one.0 ((d.compactions ++ Ok Compact ∷ []) ++ Ok Reclaim ∷ d.searches) rs last) (sym (append_assoc d.joined (d.last ∷ []) (d.emptied ∷ d.found)))
      (subst (λ (is : List Item). Session sure one.0 is (d.joined ++ d.last ∷ d.emptied ∷ d.found) last) (sym (append_assoc d.compactions (Ok Compact ∷ []) (Ok Reclaim ∷ d.searches))) one.2) in
      let sizes : length (d.joined ++ d.last ∷ []) ≡ length (d.compactions ++ Ok Compact ∷ []) =
      (let a = length-append d.joined (d.last ∷ []) in let b = length-append d.compactions (Ok Compact ∷ []) in let c = d.as_many in omega (arith, a, b, c)) in
      let two = split_at sure (d.compactions ++ Ok Compact ∷ []) (Ok Reclaim ∷ d.searches) (d.joined ++ d.last ∷ []) (d.emptied ∷ d.found) one.0 last sizes rest in
      let fewer : length (d.compactions ++ Ok Compact ∷ []) < 4294967295 =
      joined_end sure (d.compactions ++ Ok Compact ∷ []) (d.joined ++ d.last ∷ []) one.0 two.0 (joined_more d.compactions d.joined d.last d.as_many d.are_joined is) two.1 in
      let size = length-append d.compactions (Ok Compact ∷ []) in
      omega (arith, fewer, size, many)

  pub compacts_to_its_end : is_joined d.last ≡ false
  compacts_to_its_end = go d.to_the_end
    where
      by_test : length d.compactions ≡ 4294967294 → (b : Bool) → is_joined d.last ≡ b → b ≡ false
      by_test many false is = refl
      by_test many true is = absurd (not_for_ever many is)

      go : (is_joined d.last ≡ false) ⊎ (length d.compactions ≡ 4294967294) → is_joined d.last ≡ false
      go (inl none) = none
      go (inr many) = by_test many (is_joined d.last) refl
