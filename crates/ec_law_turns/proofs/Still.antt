-- No act of a brick is a moment, or takes a ballot.
use Rattle.std.proofs.Common.{◌≡◌, ℕ, Bool, true, false, cond, ◌==◌, ◌&&◌, Option, Some, None, List, [], ◌∷◌, ◌++◌, refl, ◌∙◌, ap}
use Rattle.ec_attr.specs.Marks.{is_marked}
use Rattle.ec_attr.specs.declared.kind.Domain.TheVariants.{Inode, Heal}
use Rattle.ec_locks.specs.declared.ask.Ask.{Ask as Asking}
use Rattle.ec_wire.specs.declared.message.Body.{Body}
use Rattle.ec_wire.specs.declared.message.Body.TheVariants.{ToBrick, ToClient}
use Rattle.ec_wire.specs.declared.message.Message.{Message}
use Rattle.ec_wire.specs.declared.request.Request.{Request}
use Rattle.ec_wire.specs.declared.request.Request.TheVariants.{Query, PreOp, PostOp, Clear, Make, Made, Unmake, Mark, Unmark}
use Rattle.ec_brick.specs.Replies.{Says}
use Rattle.ec_history.specs.Run.{Net, call_of, is_number, out_of}
use Rattle.ec_history.specs.Story.{is_done}
use Rattle.ec_law_base.specs.State.{State}
use Rattle.ec_law_ballots.specs.Act.{Act, after}
use Rattle.ec_law_ballots.specs.Act.Act.{Grant, Free, See, Pre, Sink_pre, Post, Sink_post, Clear as Clears, Heal_grant, Heal_free, Mark as Marks, Unmark as Unmarks, Maker_grant, Make as Makes, Made as Mades, Unmake as Unmakes, Replace}
use Rattle.ec_law_net.specs.Turns.{View, acts_changed, acts_done, acts_executed, acts_locks, acts_maker, acts_of_request, acts_shown, acts_torn, acts_worked, counted, exclusive, freed, granted, has_directory, is_shown}
use Rattle.ec_law_net.proofs.Changed.{after_both}

-- these acts are no moments, and take no ballot
abbrev pub Still : List Act → Type 0
Still xs = (s : State) (t : ℕ) → ((after xs s).moment t ≡ s.moment t) × ((after xs s).ballot t ≡ s.ballot t)

either : (u : Bool) (xs ys : List Act) → Still xs → Still ys → Still (cond u xs ys)
either true xs ys h i = h
either false xs ys h i = i

nil : Still []
nil s t = (refl, refl)

both : (xs ys : List Act) → Still xs → Still ys → Still (xs ++ ys)
both xs ys h i s t = (ap (λ (z : State). z.moment t) (after_both xs ys s) ∙ ((i (after xs s) t).0 ∙ (h s t).0), ap (λ (z : State). z.ballot t) (after_both xs ys s) ∙ ((i (after xs s) t).1 ∙ (h s t).1))

done : (g a b : ℕ) (q : Request) → Still (acts_done g a b q)
done g a b (PreOp x n at number) = either (x.0 == g) (cond (is_marked at) (Sink_pre a b) (Pre a b) ∷ []) [] (one (is_marked at)) nil
  where
    one : (u : Bool) → Still (cond u (Sink_pre a b) (Pre a b) ∷ [])
    one true s t = (refl, refl)
    one false s t = (refl, refl)
done g a b (PostOp x n at version size attr) = either (x.0 == g) (cond (is_marked at) (Sink_post a b) (Post a b) ∷ []) [] (one (is_marked at)) nil
  where
    one : (u : Bool) → Still (cond u (Sink_post a b) (Post a b) ∷ [])
    one true s t = (refl, refl)
    one false s t = (refl, refl)
done g a b (Clear x n at) = either (x.0 == g) (Clears a b ∷ []) [] (λ s t. (refl, refl)) nil
done g a b (Mark x n heal head) = either (x.0 == g) (Marks a b ∷ []) [] (λ s t. (refl, refl)) nil
done g a b (Unmark x n at dirty) = either (x.0 == g) (Unmarks a b ∷ []) [] (λ s t. (refl, refl)) nil
done g a b (Make x n child) = either (child.gfid.0 == g) (Makes b ∷ []) [] (λ s t. (refl, refl)) nil
done g a b (Made x n child) = either (child.0 == g) (Mades b ∷ []) [] (λ s t. (refl, refl)) nil
done g a b (Unmake x n child) = either (child.0 == g) (Unmakes b ∷ []) [] (λ s t. (refl, refl)) nil
done g a b q = nil

shown : (g a b : ℕ) (holder : Option ℕ) (q : Request) → Still (acts_shown g a b holder q)
shown g a b holder (Query x n) = either ((x.0 == g) && is_number n holder) (See a b ∷ []) [] (λ s t. (refl, refl)) nil
shown g a b holder q = nil

pub worked : (g a b : ℕ) (holder : Option ℕ) (q : Request) (says : Says) → Still (acts_worked g a b holder q says)
worked g a b holder q says = either (is_done says) (acts_done g a b q) (cond (is_shown says) (acts_shown g a b holder q) []) (done g a b q) (either (is_shown says) (acts_shown g a b holder q) [] (shown g a b holder q) nil)

content : (of : ℕ → ℕ) (b : ℕ) (old new : Option ℕ) → Still (acts_changed (Free b) (λ i. Grant (of i) b) old new)
content of b None None = nil
content of b None (Some j) = λ s t. (refl, refl)
content of b (Some i) None = λ s t. (refl, refl)
content of b (Some i) (Some j) = either (i == j) [] (freed (Free b) (Some i) ++ granted (λ i. Grant (of i) b) (Some j)) nil (λ s t. (refl, refl))

heal : (of : ℕ → ℕ) (b : ℕ) (old new : Option ℕ) → Still (acts_changed (Heal_free b) (λ i. Heal_grant (of i) b) old new)
heal of b None None = nil
heal of b None (Some j) = λ s t. (refl, refl)
heal of b (Some i) None = λ s t. (refl, refl)
heal of b (Some i) (Some j) = either (i == j) [] (freed (Heal_free b) (Some i) ++ granted (λ i. Heal_grant (of i) b) (Some j)) nil (λ s t. (refl, refl))

maker : (r : State) (b : ℕ) (old new : Bool) → Still (acts_maker r b old new)
maker r b false true = either r.making [] (Maker_grant b ∷ []) nil (λ s t. (refl, refl))
maker r b true false = λ s t. (refl, refl)
maker r b true true = nil
maker r b false false = nil

pub locks : (g : ℕ) (m : Net) (v : View) (b : ℕ) (old new : List Asking) → Still (acts_locks g m v b old new)
locks g m v b old new =
    let p = acts_changed (Heal_free b) (λ i. Heal_grant (call_of (m.said i)) b) (exclusive g Heal old) (exclusive g Heal new) in
    let q = acts_changed (Free b) (λ i. Grant (v.of i) b) (exclusive g Inode old) (exclusive g Inode new) in
    let r = acts_maker v.core b (has_directory m.said v.maker old) (has_directory m.said v.maker new) in
    both p (q ++ r) (heal (λ i. call_of (m.said i)) b (exclusive g Heal old) (exclusive g Heal new)) (both q r (content v.of b (exclusive g Inode old) (exclusive g Inode new)) (maker v.core b (has_directory m.said v.maker old) (has_directory m.said v.maker new)))

pub executed : (g : ℕ) (m : Net) (v : View) (o : Option Message) (version : Option ℕ) (failed : Bool) → Still (acts_executed g m v o version failed)
executed g m v None version failed = nil
executed g m v (Some msg) version failed = by_body msg.body
  where
    by_body : (z : Body) → Still (acts_of_request g m v msg z version failed)
    by_body (ToBrick q) = both (acts_worked g (v.of msg.no) msg.brick (counted v.core (v.of msg.no) (exclusive g Inode (m.brick msg.brick).asks)) q (out_of m msg q version failed).says) (acts_locks g m v msg.brick (m.brick msg.brick).asks (out_of m msg q version failed).brick.asks) (worked g (v.of msg.no) msg.brick (counted v.core (v.of msg.no) (exclusive g Inode (m.brick msg.brick).asks)) q (out_of m msg q version failed).says) (locks g m v msg.brick (m.brick msg.brick).asks (out_of m msg q version failed).brick.asks)
    by_body (ToClient re reply) = nil

pub torn : (o : Option Message) → Still (acts_torn o)
torn None = nil
torn (Some msg) = λ s t. (refl, refl)

pub replaced : (u : Bool) (b : ℕ) → Still (cond u (Replace b ∷ []) [])
replaced true b = λ s t. (refl, refl)
replaced false b = nil
