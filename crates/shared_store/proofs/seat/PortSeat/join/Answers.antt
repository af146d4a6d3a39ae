use Rattle.std.proofs.Common.{rules, ap, subst, sym, ℕ, List, Option}
use Rattle.shared_store.specs.Apart.{AllStrangers}
use Rattle.shared_store.specs.Seats.{ShowsStill, Stand, stand_of}
use Rattle.shared_store.specs.Seen.{GoesOn}
use Rattle.shared_store.specs.declared.known.Known.{Known}
use Rattle.shared_store.proofs.Joins.{apart_at, joins, recalls, tells_of_both}
use Rattle.shared_store.proofs.seat.PortSeat.join.Goals as goal

pub join_seat-requires : goal.join_seat-requires
join_seat-requires g c = (
  search rules,
  search rules,
  search rules,
  search rules,
  joins g.Q.LookPort.meaning _ _ _ _ _ c.self.invariant.hidden c.other.invariant.hidden c.self.invariant.part,
)

pub load-requires : goal.load-requires
load-requires g c = (search rules, search rules, recalls g.Q.LookPort.meaning _ _ _ _)

pub returns-clause-apart : goal.returns-clause-apart
returns-clause-apart g c =
    let v = c.self.inside.place.me.0 in
    let w = c.other.inside.place.me.0 in
    let told = tells_of_both g.Q.LookPort.meaning _ v w _ c.load.new.seat.me.0 (ap (λ me. me.0) c.join_seat.ensures.2) (ap (λ me. me.0) c.load.ensures.2.0)
    c.self.invariant.start c.load.ensures.2.1 in
    apart_at v w _ _ _ _ c.self.view_is c.other.view_is told.apart

pub returns-clause-strangers : goal.returns-clause-strangers
returns-clause-strangers g c = subst (λ (me : Known _ × List (ℕ × Option _)). AllStrangers me.0.seen.holds) (sym c.load.ensures.2.0) c.load.ensures.2.2

pub returns-clause-first : goal.returns-clause-first
returns-clause-first g c =
    let v = c.self.inside.place.me.0 in
    let w = c.other.inside.place.me.0 in
    let told = tells_of_both g.Q.LookPort.meaning _ v w _ c.load.new.seat.me.0 (ap (λ me. me.0) c.join_seat.ensures.2) (ap (λ me. me.0) c.load.ensures.2.0)
    c.self.invariant.start c.load.ensures.2.1 in
    subst (λ (s : Stand _). GoesOn s.known.seen.names s.known.seen.entries c.load.new.seat.me.0.seen.entries) c.self.view_is told.first

pub returns-clause-second : goal.returns-clause-second
returns-clause-second g c =
    let v = c.self.inside.place.me.0 in
    let w = c.other.inside.place.me.0 in
    let told = tells_of_both g.Q.LookPort.meaning _ v w _ c.load.new.seat.me.0 (ap (λ me. me.0) c.join_seat.ensures.2) (ap (λ me. me.0) c.load.ensures.2.0)
    c.self.invariant.start c.load.ensures.2.1 in
    subst (λ (s : Stand _). GoesOn s.known.seen.names s.known.seen.entries c.load.new.seat.me.0.seen.entries) c.other.view_is told.second

pub returns-clause-shows_first : goal.returns-clause-shows_first
returns-clause-shows_first g c =
    let v = c.self.inside.place.me.0 in
    let w = c.other.inside.place.me.0 in
    let told = tells_of_both g.Q.LookPort.meaning _ v w _ c.load.new.seat.me.0 (ap (λ me. me.0) c.join_seat.ensures.2) (ap (λ me. me.0) c.load.ensures.2.0)
    c.self.invariant.start c.load.ensures.2.1 in
    subst (λ (s : Stand _). ShowsStill g.Q.LookPort.meaning s (stand_of c.load.new.seat.table_id c.load.new.seat.me.0)) c.self.view_is told.shows_first

pub returns-clause-shows_second : goal.returns-clause-shows_second
returns-clause-shows_second g c =
    let v = c.self.inside.place.me.0 in
    let w = c.other.inside.place.me.0 in
    let told = tells_of_both g.Q.LookPort.meaning _ v w _ c.load.new.seat.me.0 (ap (λ me. me.0) c.join_seat.ensures.2) (ap (λ me. me.0) c.load.ensures.2.0)
    c.self.invariant.start c.load.ensures.2.1 in
    subst (λ (s : Stand _). ShowsStill g.Q.LookPort.meaning s (stand_of c.load.new.seat.table_id c.load.new.seat.me.0)) c.other.view_is told.shows_second
