use Rattle.std.proofs.Common.{rules, ◌≡◌, ◌-◌, ◌+◌, ◌++◌, ◌∷◌, [], ◌∙◌, ap, sym, arith, length}
use Rattle.live_traces.specs.Parts.{arrivals_of, live_of}
use Rattle.live_traces.proofs.LiveRows.{counted_all}
use Rattle.live_traces.proofs.live.Live.add.Goals as goal

pub invariant_of-self : goal.invariant_of-self
invariant_of-self c =
    let items : c.push_reserved.new.self.items ≡ c.self.inside.arrivals.items ++ record { chunk = c.ready.inside.chunk; moment = c.args.moment } ∷ [] = search rules in
    let more : length (live_of c.self.inside.entries.items ++ arrivals_of c.push_reserved.new.self.items) ≡ length (live_of c.self.inside.entries.items ++ arrivals_of c.self.inside.arrivals.items) + length c.ready.inside.chunk.spans =
    ap (λ xs. length (live_of c.self.inside.entries.items ++ arrivals_of xs)) items ∙ counted_all c.self.inside.entries.items c.self.inside.arrivals.items (record { chunk = c.ready.inside.chunk; moment = c.args.moment }) in
    let spans : length c.args.ready.spans ≡ length c.ready.inside.chunk.spans = ap (λ r. length r.spans) (sym c.ready.view_is) in
    let room : c.args.self.now.room ≡ 18446744073709551615 - (c.self.inside.count + c.self.inside.kept_rows) = ap (λ v. v.room) (sym c.self.view_is) in
    record {
      within = c.self.invariant.within;
      counted = omega (arith, more, c.self.invariant.counted, c.len-more.ensures);
      every = c.self.invariant.every;
      taken = c.self.invariant.taken;
      fits = omega (arith, c.self.invariant.fits, c.len-more.ensures, spans, room, c.requires.room);
    }
