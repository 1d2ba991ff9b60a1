-- Every Make and Made of a gfid is its maker's, entry by entry.
use Rattle.std.proofs.Common.{◌≡◌, ℕ, true, Option, Some, None, List, [], ◌∷◌, refl, sym, ◌∙◌, ap, subst, arith, inl, ⊎_elim}
use Rattle.ec_attr.specs.declared.geometry.Geometry.{Geometry}
use Rattle.ec_wire.specs.declared.entry.Entry.{Entry}
use Rattle.ec_wire.specs.declared.entry.Entry.TheVariants.{Called, Sent, Executed, Heard, Torn}
use Rattle.ec_wire.specs.declared.message.Body.{Body}
use Rattle.ec_wire.specs.declared.message.Body.TheVariants.{ToBrick}
use Rattle.ec_wire.specs.declared.message.Message.{Message}
use Rattle.ec_wire.specs.declared.op.Op.{Op}
use Rattle.ec_wire.specs.declared.op.Op.TheVariants.{Create, Mkdir}
use Rattle.ec_wire.specs.declared.request.Request.{Request}
use Rattle.ec_wire.specs.declared.request.Request.TheVariants.{Make, Made}
use Rattle.ec_conduct.specs.Account.{Account, at}
use Rattle.ec_conduct.specs.Data.{makes_child}
use Rattle.ec_conduct.specs.Given.{Given}
use Rattle.ec_conduct.specs.Opened.{account}
use Rattle.ec_conduct.specs.Standing.{holds}
use Rattle.ec_history.specs.Accounts.{Books, Leaving, booked, books, no_books, sender}
use Rattle.ec_history.specs.IsRun.{IsRun, May as MayEnter, MaySay}
use Rattle.ec_history.specs.Run.{Net, after, fresh}
use Rattle.ec_history.specs.Story.{Story, opening, told}
use Rattle.ec_law_net.specs.Start.{first_view}
use Rattle.ec_law_net.specs.Turns.{Maker, View, made_by, seen_after}
use Rattle.ec_law_turns.specs.Follows.{IsLock}
use Rattle.ec_law_turns.specs.Known.{Known}
use Rattle.ec_law_turns.specs.Laws.{Always, InEveryLog, MakerLaws}
use Rattle.ec_law_turns.specs.Makers.{DoneUnderDirectory, IsByMaker, MadeByMaker, NewWhereMade, MakesByMaker}
use Rattle.ec_law_turns.specs.Orderly.{ArePlain}
use Rattle.ec_law_turns.proofs.Allowed.{account_given}
use Rattle.ec_law_turns.proofs.Basics.{put_some, put_there, some_is, some_none}
use Rattle.ec_law_turns.proofs.Directories.{always_so, under_directory}
use Rattle.ec_law_turns.proofs.Origins.{as_begun, fresh_always, unversioned}
use Rattle.ec_law_turns.proofs.Runs.{Kept, kept_there, known_start, plain_first}
use Rattle.ec_law_turns.proofs.SentKnown.{BodyKept}
use Rattle.ec_law_turns.proofs.SentSound.{holds_lock}
use Rattle.ec_law_turns.proofs.Steps.{EntryKept, executed_same, heard_same, known_entry, torn_same}
use Rattle.ec_law_turns.proofs.Takes.{Taken, or_else_keeps, taken_entry}

-- what was said stays said, and a maker that is known stays known
module _ (g : ℕ) (said said' : ℕ → Option Message) (maker maker' : Option Maker) (stays : (i : ℕ) (x : Message) → said i ≡ Some x → said' i ≡ Some x) (known : (x : Maker) → maker ≡ Some x → maker' ≡ Some x) (a b : ℕ) where
  by_maker_later : (x n : ℕ) → IsByMaker said maker a b x n → IsByMaker said' maker' a b x n
  by_maker_later x n h = record { maker_is = known _ h.maker_is; lock = record { gfid = h.lock.gfid; kind = h.lock.kind; on = h.lock.on; asks = record { message = h.lock.asks.message; is = stays n h.lock.asks.message h.lock.asks.is; call = h.lock.asks.call; brick = h.lock.asks.brick; body = h.lock.asks.body } } }

  makes_later : (q : Request) → MakesByMaker g said maker a b q → MakesByMaker g said' maker' a b q
  makes_later (Make x n child) h = λ on. by_maker_later x.0 n (h on)
  makes_later (Made x n child) h = λ on. by_maker_later x.0 n (h on)
  makes_later q h = tt

grown : (g : ℕ) (m m' : Net) (v v' : View) → m'.said ≡ m.said → ((x : Maker) → v.maker ≡ Some x → v'.maker ≡ Some x) → MadeByMaker g m v → MadeByMaker g m' v'
grown g m m' v v' said known h i x q e body = makes_later g m.said m'.said v.maker v'.maker (λ j y is. ap (λ (f : ℕ → Option Message). f j) said ∙ is) known x.call x.brick q (h i x q (sym (ap (λ (f : ℕ → Option Message). f i) said) ∙ e) body)

made_known : (g : ℕ) (v : View) (a : ℕ) (op : Op) (x : Maker) → v.maker ≡ Some x → (made_by g v a op).maker ≡ Some x
made_known g v a (Create parent name) x e = or_else_keeps v.maker _ x e
made_known g v a (Mkdir parent name) x e = or_else_keeps v.maker _ x e
made_known g v a op x e = e

-- ## A message of a call

module _ (geometry : Geometry) (g : ℕ) (m : Net) (vs : ℕ → View) (t : Story) (b : Books) (msg : Message) (may : MaySay geometry.n m msg msg.body) (kept : BodyKept m b msg msg.body) (known : (h : ℕ) → Known geometry h m (vs h) b) (k : Taken g (vs g) t b) where
  module _ (q : Request) (body : msg.body ≡ ToBrick q) (mine : sender m b msg q ≡ Some msg.call) where
    made : (given : Given) × (b.given msg.call ≡ Some given)
    made = let asker = subst (λ (z : Body). MaySay geometry.n m msg z) body may in let o = (known g).numbers.made msg.call asker.asker asker.made in (o.1, o.2)

    abbrev c : Account
    c = account made.0 (b.own msg.call)

    allowed : BodyKept m b msg (ToBrick q)
    allowed = subst (BodyKept m b msg) body kept

    takes : c.given.child ≡ g → (x : ℕ) → makes_child c.given.op x ≡ true → (vs g).maker ≡ Some (record { call = msg.call; dir = x })
    takes = subst (λ (y : Given). y.child ≡ g → (x : ℕ) → makes_child y.op x ≡ true → (vs g).maker ≡ Some (record { call = msg.call; dir = x })) (sym (account_given made.0 (b.own msg.call))) (k.takes msg.call made.0 made.1)

    locks : (x n : ℕ) → holds (at c x msg.brick).inode n ≡ true → IsLock x m.said msg.call msg.brick n
    locks x n h = let o = holds_lock (at c x msg.brick).inode n h in subst (IsLock x m.said msg.call msg.brick) o.2 (((known x).calls msg.call made.0 made.1).lock msg.brick o.0 o.1).1

  newly : (q : Request) → msg.body ≡ ToBrick q → MakesByMaker g m.said (vs g).maker msg.call msg.brick q
  newly (Make x n child) e =
      let h = allowed (Make x n child) e refl (made (Make x n child) e refl).0 (made (Make x n child) e refl).1 refl in
      λ on. record { maker_is = takes (Make x n child) e refl (sym h.0.1.child_is ∙ on) x.0 h.0.1.op; lock = locks (Make x n child) e refl x.0 n h.0.1.change.grant_held }
  newly (Made x n child) e =
      let h = allowed (Made x n child) e refl (made (Made x n child) e refl).0 (made (Made x n child) e refl).1 refl in
      λ on. record { maker_is = takes (Made x n child) e refl (sym h.0.1.child_is ∙ on) x.0 (h.2 x n child refl); lock = locks (Made x n child) e refl x.0 n h.0.1.grant_held }
  newly q e = tt

-- ## Every log

pub made_entry : (geometry : Geometry) (g : ℕ) (m : Net) (vs : ℕ → View) (t : Story) (b : Books) (e : Entry) → MayEnter geometry.n m e → EntryKept m b e → ((h : ℕ) → Known geometry h m (vs h) b) → Taken g (vs g) t b → MadeByMaker g m (vs g) → MadeByMaker g (after m e) (seen_after g m (vs g) e)
made_entry geometry g m vs t b (Called a client op) may kept known k h = grown g m (after m (Called a client op)) (vs g) (seen_after g m (vs g) (Called a client op)) refl (made_known g (vs g) a op) h
made_entry geometry g m vs t b (Sent msg) may kept known k h = λ i x q e body. ⊎_elim (λ z. new x q body (some_is msg x z.1)) (λ z. later x.call x.brick q (h i x q z.1 body)) (put_some m.said msg.no (Some msg) i x e)
  where
    stays : (j : ℕ) (y : Message) → m.said j ≡ Some y → (after m (Sent msg)).said j ≡ Some y
    stays j y is = put_there m.said msg.no (Some msg) j (λ z. let lt = ((known g).messages.number j y is).1 in let no = may.0 in omega (arith, lt, no, z)) ∙ is

    later : (a c : ℕ) (q : Request) → MakesByMaker g m.said (vs g).maker a c q → MakesByMaker g (after m (Sent msg)).said (vs g).maker a c q
    later a c q o = makes_later g m.said (after m (Sent msg)).said (vs g).maker (vs g).maker stays (λ y u. u) a c q o

    new : (x : Message) (q : Request) → x.body ≡ ToBrick q → msg ≡ x → MakesByMaker g (after m (Sent msg)).said (vs g).maker x.call x.brick q
    new x q body same = subst (λ (y : Message). MakesByMaker g (after m (Sent msg)).said (vs g).maker y.call y.brick q) same (later msg.call msg.brick q (newly geometry g m vs t b msg may.1 kept known k q (ap (λ (y : Message). y.body) same ∙ body)))
made_entry geometry g m vs t b (Executed i version failed) may kept known k h = grown g m (after m (Executed i version failed)) (vs g) (seen_after g m (vs g) (Executed i version failed)) (executed_same m (m.said i) version failed).0 (λ x e. e) h
made_entry geometry g m vs t b (Heard i) may kept known k h = grown g m (after m (Heard i)) (vs g) (seen_after g m (vs g) (Heard i)) (heard_same m (m.said i)).0 (λ x e. e) h
made_entry geometry g m vs t b (Torn i bytes version) may kept known k h = grown g m (after m (Torn i bytes version)) (vs g) (seen_after g m (vs g) (Torn i bytes version)) (torn_same m (m.said i) bytes version).0 (λ x e. e) h
made_entry geometry g m vs t b e may kept known k h = grown g m (after m e) (vs g) (seen_after g m (vs g) e) refl (λ x e. e) h

made_always : (geometry : Geometry) (left : ℕ → Leaving) (none : (a : ℕ) → (left a).kept ≡ None) (g : ℕ) (es : List Entry) (m : Net) (vs : ℕ → View) (t : Story) (b : Books) → IsRun geometry.n es m → ArePlain es → ((h : ℕ) → Known geometry h m (vs h) b) → Kept geometry left none (books geometry left es m t b) → Taken g (vs g) t b → MadeByMaker g m (vs g) → Always (MadeByMaker g) g es m (vs g)
made_always geometry left none g [] m vs t b runs plain known kept k made = made
made_always geometry left none g (e ∷ es) m vs t b runs plain known kept k made =
    let p = plain_first e es plain in
    let may = kept_there geometry left none e es m t b runs plain (known g).numbers kept in
    (made, made_always geometry left none g es (after m e) (λ h. seen_after h m (vs h) e) (told geometry m t e) (booked geometry left m t b e) runs.1 p.1 (λ h. known_entry geometry h left m (vs h) t b e none p.0 runs.0 may (known h)) kept (taken_entry geometry g left m (vs g) t b e (known g).numbers k) (made_entry geometry g m vs t b e runs.0 may known k made))

pub made_by_maker : InEveryLog MadeByMaker
made_by_maker config records bricks tree next g call es start runs plain orderly =
    made_always config.geometry orderly.left orderly.none_kept g es (fresh bricks) (λ h. first_view config.geometry.n (tree h).version records h call next) (opening tree next) no_books runs plain
    (λ h. known_start config records bricks tree next h call start) (λ a given h. (orderly.conduct a given h, orderly.order a given h))
    (record { next = refl; untaken = inl refl; below = λ a y e one. absurd (some_none y (sym e)); takes = λ a y e is x so. absurd (some_none y (sym e)) })
    (λ i x q e body. absurd (some_none x (sym e)))

under_directories : InEveryLog DoneUnderDirectory
under_directories config records bricks tree next g call es start runs plain orderly = always_so (MadeByMaker g) (DoneUnderDirectory g) (under_directory g) g es (fresh bricks) (first_view config.geometry.n (tree g).version records g call next) (made_by_maker config records bricks tree next g call es start runs plain orderly)

new_where_made : InEveryLog NewWhereMade
new_where_made config records bricks tree next g call es start runs plain orderly =
    let v = first_view config.geometry.n (tree g).version records g call next in
    fresh_always next (tree g).version g (unversioned config records bricks tree next g start) es (fresh bricks) v (as_begun next (tree g).version g v refl refl refl)

pub laws : MakerLaws
laws = record { made_by_maker = made_by_maker; under_directory = under_directories; new = new_where_made }
