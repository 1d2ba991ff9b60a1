use Rattle.std.proofs.Common.{◌≡◌, ℕ, ◌++◌, arith, ap, sym, subst, ◌∙◌, append-nil, List}
use Rattle.ec_conduct.specs.Table.{Send, to_bricks}
use Rattle.ec_txn.specs.declared.known.Place.{Place}
use Rattle.ec_txn.specs.Lists.{Extends, back_at, back_of}
use Rattle.ec_txn.specs.Rounds.{one}
use Rattle.ec_txn.proofs.Extending.{extends_more, extends_none, sends_more}
use Rattle.ec_txn.proofs.round.give_back.Goals as goal

pub loop-brick-init : goal.loop-brick-init
loop-brick-init c = record { sends = sym (append-nil c.args.sends.now); within = extends_none c.args.bricks c.args.sends.now }

pub loop-brick-preserved : goal.loop-brick-preserved
loop-brick-preserved c = record {
  sends = sends_more c.loop-brick.brick (back_at c.args.gfid.0 c.args.known.now.places.items) c.args.sends.now c.loop-brick.sends c.push.new.sends (one c.given_back.result) c.loop-brick.invariant.sends c.in_ok-push.ensures (c.given_back.ensures ∙ ap (λ (p : Place). back_of c.args.gfid.0 p.lock) c.place.ensures);
  within = extends_more c.args.bricks c.loop-brick.brick c.args.sends.now c.loop-brick.sends c.push.new.sends c.given_back.result c.loop-brick-test.true c.in_ok-push.ensures c.loop-brick.invariant.within;
}

pub returns : goal.returns
returns c =
    let e : c.loop-brick.brick ≡ c.args.bricks = omega (arith, c.loop-brick-test.false, c.loop-brick.auto.brick-end) in
    record {
      sends = c.loop-brick.invariant.sends ∙ ap (λ (n : ℕ). c.args.sends.now ++ to_bricks n (back_at c.args.gfid.0 c.args.known.now.places.items)) e;
      within = subst (λ (n : ℕ). Extends c.args.bricks n c.args.sends.now c.loop-brick.sends) e c.loop-brick.invariant.within;
    }
