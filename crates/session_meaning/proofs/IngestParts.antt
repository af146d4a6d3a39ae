-- What an ingest asks is asked as in a session, and what it asks last.
use Rattle.std.proofs.Common.{◌≡◌, inl, inr, ◌∙◌, ℕ, Bool, false, List, [], ◌∷◌, ◌++◌, Ok, refl, sym, ap, subst, append_assoc}
use Rattle.session_text.specs.declared.reply.Reply.{Reply}
use Rattle.session_text.specs.declared.request.Request.{Request}
use Rattle.session_text.specs.declared.request.Request.TheVariants.{Compact, CutAll, Flush, Reclaim}
use Rattle.session_text.specs.Items.{Item}
use Rattle.session_meaning.specs.At.{At}
use Rattle.session_meaning.specs.Ingest.{AreJoined, Asks, AsksLine, AsksNothing, AtTheEnd, Compacts, Far, HasFinished, Ingests, KeptSmall, LinesPushed, Part, Pushes, Stand, Then, is_joined}
use Rattle.session_meaning.specs.Ingest.Far.{so_far, whole}
use Rattle.session_meaning.specs.Session.{IsAnsweredOrRefused, Session}

not_stopped : whole ≡ so_far → ⊥
not_stopped e = cc

module _ (sure : Bool) where
  -- ---- a session

  then_session : (front back : List Item) (first later : List Reply) (start mid last : At) → Session sure start front first mid → Session sure mid back later last
      → Session sure start (front ++ back) (first ++ later) last
  then_session [] back first later start mid last h k =
      subst (λ (rs : List Reply). Session sure start back (rs ++ later) last) (sym h.0) (subst (λ (at : At). Session sure at back later last) h.1 k)
  then_session (i ∷ is) back [] later start mid last h k = absurd h
  then_session (i ∷ is) back (r ∷ rs) later start mid last h k = (h.0, h.1, then_session is back rs later h.0 mid last h.2 k)

  abbrev pub MakesSession : Part → Type 0
  MakesSession part = (before after : Stand) (items : List Item) (replies : List Reply) (far : Far) → part before items replies after far
      → Session sure before.store items replies after.store

  nothing_session : (before after : Stand) (items : List Item) (replies : List Reply) → AsksNothing before items replies after → Session sure before.store items replies after.store
  nothing_session before after items replies (none, no_reply, same) =
      subst (λ (is : List Item). Session sure before.store is replies after.store) (sym none) (no_reply, ap (λ (s : Stand). s.store) same)

  one_session : (before after : At) (item : Item) (reply : Reply) (items : List Item) (replies : List Reply) → items ≡ item ∷ [] → replies ≡ reply ∷ []
      → IsAnsweredOrRefused sure item before reply after → Session sure before items replies after
  one_session before after item reply items replies is told answered =
      subst (λ (is : List Item). Session sure before is replies after) (sym is)
      (subst (λ (rs : List Reply). Session sure before (item ∷ []) rs after) (sym told) (after, answered, (refl, refl)))

  both_session : (one two : Part) → MakesSession one → MakesSession two → MakesSession (Then one two)
  both_session one two first next before after items replies far (inl halt) = first before after items replies so_far halt.0
  both_session one two first next before after items replies far (inr (mid, xs, ys, rs, ss, items_are, replies_are, done, rest)) =
      subst (λ (is : List Item). Session sure before.store is replies after.store) (sym items_are)
      (subst (λ (qs : List Reply). Session sure before.store (xs ++ ys) qs after.store) (sym replies_are)
      (then_session xs ys rs ss before.store mid.store after.store (first before mid xs rs whole done) (next mid after ys ss far rest)))

  ask_session : (request : Request) → MakesSession (Asks sure request)
  ask_session request before after items replies far (inl nothing) = nothing_session before after items replies nothing.0
  ask_session request before after items replies far (inr (reply, is, told, answered, clock)) =
      one_session before.store after.store (Ok request) reply items replies is told answered

  line_session : (line : List ℕ) → MakesSession (AsksLine sure line)
  line_session line before after items replies far (inl nothing) = nothing_session before after items replies nothing.0
  line_session line before after items replies far (inr (moment, item, reply, next, asks, is, told, answered, clock)) =
      one_session before.store after.store item reply items replies is told answered

  small_session : MakesSession (KeptSmall sure)
  small_session before after items replies far (inl few) = nothing_session before after items replies few.1
  small_session before after items replies far (inr many) =
      both_session (Asks sure CutAll) (Asks sure Flush) (ask_session CutAll) (ask_session Flush) before after items replies far many.1

  lines_session : (lines : List (List ℕ)) → MakesSession (LinesPushed sure lines)
  lines_session [] before after items replies far nothing = nothing_session before after items replies nothing
  lines_session ([] ∷ lines) before after items replies far h = lines_session lines before after items replies far h
  lines_session ((b ∷ bs) ∷ lines) before after items replies far h =
      both_session (Then (AsksLine sure (b ∷ bs)) (KeptSmall sure)) (LinesPushed sure lines)
      (both_session (AsksLine sure (b ∷ bs)) (KeptSmall sure) (line_session (b ∷ bs)) small_session) (lines_session lines) before after items replies far h

  compacts_session : MakesSession (Compacts sure)
  compacts_session before after [] replies far (no_reply, same, halt) = (no_reply, ap (λ (s : Stand). s.store) same)
  compacts_session before after (i ∷ is) [] far bad = absurd bad
  compacts_session before after (i ∷ is) (r ∷ rs) far (asks, between, answered, clock, inl more) =
      (between.store, answered, compacts_session between after is rs far more.1)
  compacts_session before after (i ∷ is) (r ∷ rs) far (asks, between, answered, clock, inr last) =
      (between.store, answered, nothing_session between after is rs last.1)

  end_session : MakesSession (AtTheEnd sure)
  end_session =
      both_session (Asks sure CutAll) (Then (Asks sure Flush) (Then (Compacts sure) (Asks sure Reclaim))) (ask_session CutAll)
      (both_session (Asks sure Flush) (Then (Compacts sure) (Asks sure Reclaim)) (ask_session Flush)
      (both_session (Compacts sure) (Asks sure Reclaim) compacts_session (ask_session Reclaim)))

  pub ingest_session : (lines : List (List ℕ)) → MakesSession (Ingests sure lines)
  ingest_session lines =
      both_session (KeptSmall sure) (Then (LinesPushed sure lines) (AtTheEnd sure)) small_session
      (both_session (LinesPushed sure lines) (AtTheEnd sure) (lines_session lines) end_session)

  pub pushes_session : (lines : List (List ℕ)) (before after : Stand) (items : List Item) (replies : List Reply) → Pushes sure lines before items replies after
      → Session sure before.store items replies after.store
  pushes_session lines before after items replies h =
      both_session (KeptSmall sure) (LinesPushed sure lines) small_session (lines_session lines) before after items replies whole h

  -- ---- what is asked last

  -- It compacted until a compaction joined no blocks.
  record HasCompacted (items : List Item) (replies : List Reply) : Type 0 where
    compactions : List Item
    joined : List Reply
    last : Reply
    asked : items ≡ compactions ++ Ok Compact ∷ []
    told : replies ≡ joined ++ last ∷ []
    are_joined : AreJoined compactions joined
    not_joined : is_joined last ≡ false

  same_one : {A : Type 0} (a b : A) (xs : List A) → a ≡ b → xs ≡ [] → a ∷ xs ≡ b ∷ []
  same_one a b xs head tail = cc

  has_compacted : (before after : Stand) (items : List Item) (replies : List Reply) → Compacts sure before items replies after whole → HasCompacted items replies
  has_compacted before after [] replies (no_reply, same, halt) = absurd (not_stopped halt)
  has_compacted before after (i ∷ is) [] bad = absurd bad
  has_compacted before after (i ∷ is) (r ∷ rs) (asks, between, answered, clock, inl (joined, more)) =
      let h = has_compacted between after is rs more in record {
        compactions = i ∷ h.compactions;
        joined = r ∷ h.joined;
        last = h.last;
        asked = ap (λ (l : List Item). i ∷ l) h.asked;
        told = ap (λ (l : List Reply). r ∷ l) h.told;
        are_joined = (asks, joined, h.are_joined);
        not_joined = h.not_joined;
      }
  has_compacted before after (i ∷ is) (r ∷ rs) (asks, between, answered, clock, inr (not, (no_items, no_replies, same))) = record {
    compactions = [];
    joined = [];
    last = r;
    asked = same_one i (Ok Compact) is asks no_items;
    told = same_one r r rs refl no_replies;
    are_joined = tt;
    not_joined = not;
  }

  has_asked : (request : Request) (before after : Stand) (items : List Item) (replies : List Reply) → Asks sure request before items replies after whole
      → (reply : Reply) × (items ≡ Ok request ∷ []) × (replies ≡ reply ∷ [])
  has_asked request before after items replies (inl nothing) = absurd (not_stopped nothing.1)
  has_asked request before after items replies (inr (reply, is, told, answered, clock)) = (reply, is, told)

  has_ended : (before after : Stand) (items : List Item) (replies : List Reply) → AtTheEnd sure before items replies after whole → HasFinished items replies
  has_ended before after items replies (inl halt) = absurd (not_stopped halt.1)
  has_ended before after items replies (inr (m, xs, ys, rs, ss, items_are, replies_are, cuts, inl halt)) = absurd (not_stopped halt.1)
  has_ended before after items replies (inr (m, xs, ys, rs, ss, items_are, replies_are, cuts, inr (n, us, vs, ts, ws, ys_are, ss_are, flushes, inl halt))) = absurd (not_stopped halt.1)
  has_ended before after items replies (inr (
    m,
    xs,
    ys,
    rs,
    ss,
    items_are,
    replies_are,
    cuts,
    inr (
      n,
      us,
      vs,
      ts,
      ws,
      ys_are,
      ss_are,
      flushes,
      inr (p, es, bs, cs, ds, vs_are, ws_are, compacts, reclaims),
    ),
  )) =
      let cut = has_asked CutAll before m xs rs cuts in
      let flush = has_asked Flush m n us ts flushes in
      let h = has_compacted n p es cs compacts in
      let empties = has_asked Reclaim p after bs ds reclaims in record {
        earlier = [];
        told_earlier = [];
        compactions = h.compactions;
        joined = h.joined;
        cut = cut.0;
        flushed = flush.0;
        last = h.last;
        emptied = empties.0;
        asked = items_are ∙ joined_lists xs ys (Ok CutAll ∷ []) (Ok Flush ∷ (h.compactions ++ Ok Compact ∷ Ok Reclaim ∷ [])) cut.1
            (ys_are ∙ joined_lists us vs (Ok Flush ∷ []) (h.compactions ++ Ok Compact ∷ Ok Reclaim ∷ []) flush.1
            (vs_are ∙ joined_lists es bs (h.compactions ++ Ok Compact ∷ []) (Ok Reclaim ∷ []) h.asked empties.1 ∙ append_assoc h.compactions (Ok Compact ∷ []) (Ok Reclaim ∷ [])));
        told = replies_are ∙ joined_replies rs ss (cut.0 ∷ []) (flush.0 ∷ (h.joined ++ h.last ∷ empties.0 ∷ [])) cut.2
            (ss_are ∙ joined_replies ts ws (flush.0 ∷ []) (h.joined ++ h.last ∷ empties.0 ∷ []) flush.2
            (ws_are ∙ joined_replies cs ds (h.joined ++ h.last ∷ []) (empties.0 ∷ []) h.told empties.2 ∙ append_assoc h.joined (h.last ∷ []) (empties.0 ∷ [])));
        are_joined = h.are_joined;
        not_joined = h.not_joined;
      }
    where
      joined_lists : (a b c d : List Item) → a ≡ c → b ≡ d → a ++ b ≡ c ++ d
      joined_lists a b c d one two = ap (λ (l : List Item). l ++ b) one ∙ ap (λ (l : List Item). c ++ l) two

      joined_replies : (a b c d : List Reply) → a ≡ c → b ≡ d → a ++ b ≡ c ++ d
      joined_replies a b c d one two = ap (λ (l : List Reply). l ++ b) one ∙ ap (λ (l : List Reply). c ++ l) two

  finished_behind : (xs ys items : List Item) (rs ss replies : List Reply) → items ≡ xs ++ ys → replies ≡ rs ++ ss → HasFinished ys ss → HasFinished items replies
  finished_behind xs ys items rs ss replies items_are replies_are h = record {
    earlier = xs ++ h.earlier;
    told_earlier = rs ++ h.told_earlier;
    compactions = h.compactions;
    joined = h.joined;
    cut = h.cut;
    flushed = h.flushed;
    last = h.last;
    emptied = h.emptied;
    asked = items_are ∙ ap (λ (l : List Item). xs ++ l) h.asked ∙ sym (append_assoc xs h.earlier (Ok CutAll ∷ Ok Flush ∷ (h.compactions ++ Ok Compact ∷ Ok Reclaim ∷ [])));
    told = replies_are ∙ ap (λ (l : List Reply). rs ++ l) h.told ∙ sym (append_assoc rs h.told_earlier (h.cut ∷ h.flushed ∷ (h.joined ++ h.last ∷ h.emptied ∷ [])));
    are_joined = h.are_joined;
    not_joined = h.not_joined;
  }

  pub ingest_finishes : (lines : List (List ℕ)) (before after : Stand) (items : List Item) (replies : List Reply) → Ingests sure lines before items replies after whole
      → HasFinished items replies
  ingest_finishes lines before after items replies (inl halt) = absurd (not_stopped halt.1)
  ingest_finishes lines before after items replies (inr (m, xs, ys, rs, ss, items_are, replies_are, small, inl halt)) = absurd (not_stopped halt.1)
  ingest_finishes lines before after items replies (inr (m, xs, ys, rs, ss, items_are, replies_are, small, inr (n, us, vs, ts, ws, ys_are, ss_are, pushes, ends))) =
      finished_behind xs ys items rs ss replies items_are replies_are
      (finished_behind us vs ys ts ws ss ys_are ss_are (has_ended n after vs ws ends))
