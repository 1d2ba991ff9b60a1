-- The message stands at its place.
use Rattle.std.proofs.Common.{◌≡◌, ◌∙◌, sym, subst, ap, true, false}
use Rattle.ec_cluster.proofs.Saying.{place_low, sent_at}
use Rattle.ec_cluster.proofs.cluster.Cluster.sent.Goals as goal
use Rattle.ec_cluster.specs.Said.{said_in}
use Rattle.ec_cluster.specs.Sound.{ArePlaced}
use Rattle.ec_cluster.specs.Views.{log_of, next_of}

pub returns-in-Some-get : goal.returns-in-Some-get
returns-in-Some-get c =
    let h = c.in-Some.ensures.lookup in
    let k = c.in-Some-get.ensures.lookup in
    let a : ArePlaced c.items.result.now c.deref.result.now (next_of c.args.self.now) = subst (λ l. ArePlaced l c.deref.result.now (next_of c.args.self.now)) (sym c.items.ensures) (subst (λ p. ArePlaced (log_of c.args.self.now) p (next_of c.args.self.now)) (sym c.deref.ensures.value) c.requires.placed) in
    c.message_of.ensures ∙ (sent_at c.items.result.now c.deref.result.now (next_of c.args.self.now) c.args.number c.in-Some.place.now c.in-Some-get.entry.now a c.if-number-eq0.false h.3.0 h.1 k.3.0 k.1 ∙ ap (λ l. said_in l c.args.number) c.items.ensures)

pub returns-in-None-get : goal.returns-in-None-get
returns-in-None-get c =
    let h = c.in-Some.ensures.lookup in
    let k = c.in-None-get.ensures.lookup in
    let a : ArePlaced c.items.result.now c.deref.result.now (next_of c.args.self.now) = subst (λ l. ArePlaced l c.deref.result.now (next_of c.args.self.now)) (sym c.items.ensures) (subst (λ p. ArePlaced (log_of c.args.self.now) p (next_of c.args.self.now)) (sym c.deref.ensures.value) c.requires.placed) in
    let e : false ≡ true = k.2 (place_low c.items.result.now c.deref.result.now (next_of c.args.self.now) c.args.number c.in-Some.place.now a h.3.0 h.1) in
    absurd cc
