-- `now` makes a value of no bytes, with the disk's moment.
use Rattle.std.proofs.Common.{◌≡◌, [], ◌∷◌, refl}
use mir.Syntax.{a_type, dcons, dnil, named}
use mir.Val.{Val, vptr, vstruct, vcons, vnil}
use mir.MapTy.{inst_fn}
use base.Fml.{Fml}
use types.Kit.{‵, raw, ◌⊛◌, ◌$◌, ◌∵◌, !, qed, move, keep, use0, split, by, join, fjoin, suffices, done}
use types.Run.{no_more, and_then, returns, enter}
use types.ByLocal.{alloc_all, pass_all, free_all, look_at, get, sets}
use types.Part.{agg}
use contract.Running.{tables, tables_of}
use sound.WpLaws.{WpFn-mono}
use prog.Wp.{WpFn}
use base.Logic.{ent, sep, emp}
use contract.Monad.{fact, fact_i}
use seplogic.Ra.Ura.{Ura}
use types.Logic.{Logic, sem}
use denote.Exit.{yes}
use denote.RattleType.{RattleType, owns}
use denote.Signature.{type_at, types_at, plain}
use denote.Steps.{nothing}
use denote.Param.{param, bounded}
use denote.Builtin.{RefOf}
use denote.Ref.{shr_vals, shr_Tells}
use denote.Shadow.{makes_shadow}
use denote.Triple.Clauses.{Ended, Clauses, Lasts, at_exit, closing}
use denote.Triple.Entry.{Res, alive}
use denote.Triple.Spec.{triple_of}
use denote.Triple.Table.{entered}
use denote.Triple.Walked.{Stays, Fit, has_of, stay_dropped, walk_of, walked, walk_Meets, ends_at, Goes-dropped}
use Rattle.store_core.specs.contracts.since.Since as Since
use Rattle.store_core.specs.contracts.since.Since.now.{ended, clauses}
use Rattle.store_core.specs.contracts.since.Since.now.Key.{name as #self}
use Rattle.store_core.proofs.since.Since.now.Statement.{statement}
use Rattle.store_core.proofs.since.Since.now.Code as code

abbrev token : Val
token = vstruct (vcons (vstruct vnil) vnil)

-- the tokens, what is left of the parameters, the result and the `ensures`
leaves : {M : Type 1} {𝓤 : Ura M} (𝓛 : Logic 𝓤) (T : Ended) (hs : Stays T.signature.params T.kept) (c : Clauses 𝓤 T)
    (y : (walk_of 𝓛 T hs c).Ghost) (v : Val) (r : Res T.signature y.0.0) (ws : Lasts T y.0.0 y.0.3) → Fit T hs y.0.0 y.0.3 ws
    → ent 𝓤 (sep 𝓤 (alive 𝓛 T.signature y.0.0 y.0.1) (sep 𝓤 (sem 𝓛 (has_of y.0.0 T.signature.params T.kept hs y.0.3 ws y.0.4)) (sep 𝓤 (sem 𝓛 ((type_at T.signature.result y.0.0).own_val r (v ∷ [])))
    ((c y.0.0 y.0.3).ensures y.1 r (at_exit T y.0.0 y.0.3 ws))))) ((walk_of 𝓛 T hs c).post y v)
leaves {𝓤 = 𝓤} 𝓛 T hs c y v r ws fit =
    qed 𝓛 (raw (alive 𝓛 T.signature y.0.0 y.0.1) ∷ ‵ (has_of y.0.0 T.signature.params T.kept hs y.0.3 ws y.0.4) ∷ ‵ ((type_at T.signature.result y.0.0).own_val r (v ∷ []))
    ∷ raw ((c y.0.0 y.0.3).ensures y.1 r (at_exit T y.0.0 y.0.3 ws)) ∷ []) ∵ suffices ! _ (ends_at 𝓛 T hs c y v r ws fit) $ move ! (1 ∷ 2 ∷ []) $ join ! $ move ! (1 ∷ 0 ∷ []) $ join ! $ done !

pub now_spec : {M : Type 1} → statement M
unfolding tables_of
now_spec 𝓤 𝓛 𝓜 𝓡 wired D L g d e _ _ =
    let H = 𝓛.H in let 𝓣 = tables 𝓤 H 𝓜 𝓡 𝓡.env in let 𝓣' = tables_of 𝓤 H 𝓜 𝓣 in let R : RattleType = param 0 D in let En = ended D g d e in
    let inst = bounded (a_type ∷ []) (D, tt) (dcons d (dcons e dnil)) in let fn = inst_fn inst code.function in let c = clauses D g d e 𝓛 𝓜.mem 𝓡.returns in
    let arg = RefOf (0 ∷ []) tt (plain (λ _. R)) (λ _. tt) in let hs : Stays En.signature.params En.kept = (stay_dropped arg yes, tt) in
    entered 𝓤 H (triple_of 𝓛 En.signature (closing 𝓛 En c)) 𝓣.C 𝓣.Λ (#self inst) fn (code.unfolded 𝓤 H 𝓜 𝓡 wired (D, tt) d e)
    (walk_Meets 𝓛 En hs (Goes-dropped 𝓛 2 arg yes (λ κs x f. refl), tt) c (WpFn 𝓤 H 𝓣.C 𝓣.Λ fn) (WpFn-mono 𝓤 H 𝓛.laws 𝓣' fn)
    (walked 𝓛 En hs c (WpFn 𝓤 H 𝓣.C 𝓣.Λ fn) (λ κs. (shr_vals, tt)) (λ κs. (shr_Tells (named 0) κs.0 R, tt)) (λ κs qs bounds a gh are.
    let p : Val = vptr a.0.ref_ptr.0 a.0.ref_ptr.1 in let r : Since.the_row.Denot = record { marker = record {}; moment = g.moment a.0.now } in let F : Fml = Since.the_row.own_val r (token ∷ []) in
    let y : (walk_of 𝓛 En hs c).Ghost = ((κs, qs, bounds, a, (p ∷ [], tt)), gh) in let Post : Val → _ = (walk_of 𝓛 En hs c).post y in
    qed 𝓛 ((raw (alive 𝓛 En.signature κs qs) ⊛ ‵ (owns (types_at En.signature.params κs) a y.0.4)) ∷ raw ((c κs a).requires gh) ∷ []) ∵ split ! $ keep ! (0 ∷ []) $
    enter ! 𝓣.C 𝓣.Λ fn (p ∷ []) Post $ alloc_all ! (λ l. pass_all ! refl ((tt, tt), tt) $
    sets ! (agg ! (no_more !)) refl (tt, tt) $ sets ! (agg ! (and_then ! (get ! refl) (no_more !))) refl (tt, (tt, tt)) $
    use0 𝓛 (raw (fact 𝓤 (g.moment a.0.now ≡ g.moment a.0.now))) (fact_i 𝓤 (g.moment a.0.now ≡ g.moment a.0.now) (emp 𝓤) refl) $
    use0 𝓛 (‵ F) (makes_shadow 𝓛 F ((λ vss. (tt, ((λ uss. (tt, tt)), tt))), tt) (((vstruct vnil ∷ [], tt), (refl, ((tt, (refl, tt)), tt))), tt)) $ nothing ! $ nothing ! $ fjoin ! $
    returns ! (look_at ! 0 refl) $ free_all ! refl $ keep ! (3 ∷ 0 ∷ 1 ∷ 2 ∷ []) $ by ! (leaves 𝓛 En hs c y token r (tt, tt) (tt, tt))))))
