-- Plans of a file along a log: each turn that has planned has the plan of its call.
use Rattle.std.specs.Prelude.{◌≡◌, ℕ, ◌+◌, ◌-◌, ◌^◌, ◌<◌, ◌≤◌, true, false, not, cond, ◌==◌, ◌&&◌, ◌||◌, Option, Some, None, List, ◌∷◌, ◌++◌}
use Rattle.ec_attr.specs.declared.geometry.Geometry.{Geometry}
use Rattle.ec_attr.specs.declared.head.Head.{Head}
use Rattle.ec_brick.specs.State.{State as Brick}
use Rattle.ec_conduct.specs.Account.{at}
use Rattle.ec_conduct.specs.Changes.{IsAllOf}
use Rattle.ec_conduct.specs.Own.{Own, Sends}
use Rattle.ec_conduct.specs.Given.{Given, quorum, quorum_of}
use Rattle.ec_conduct.specs.Opened.{account}
use Rattle.ec_conduct.specs.Standing.{changes_at, group_of}
use Rattle.ec_history.specs.Accounts.{Books, Leaving, booked, no_books}
use Rattle.ec_history.specs.IsRun.{AreChunks, May, MaySay}
use Rattle.ec_history.specs.Run.{Net, after, call_of, fresh}
use Rattle.ec_history.specs.Story.{Story}
use Rattle.ec_wire.specs.declared.entry.Entry.{Entry}
use Rattle.ec_wire.specs.declared.entry.Entry.TheVariants.{Sent}
use Rattle.ec_wire.specs.declared.message.Body.{Body}
use Rattle.ec_wire.specs.declared.message.Body.TheVariants.{ToBrick, ToClient}
use Rattle.ec_wire.specs.declared.message.Message.{Message}
use Rattle.ec_wire.specs.declared.request.Request.{Request}
use Rattle.ec_law_data.specs.Coding.{by_rows}
use Rattle.ec_law_data.specs.Deeds.{file_after, is_post_on}
use Rattle.ec_law_data.specs.Forms.{Coder, Piece, Shape, is_data, of_file, stripes_written}
use Rattle.ec_law_data.specs.Link.{EntryCoded}
use Rattle.ec_law_data.specs.Reading.{Plans}
use Rattle.ec_law_net.specs.Turns.{View, seen_after, turn_of}
use Rattle.ec_law_pieces.specs.Deed.{IsPlan, Plan}
use Rattle.ec_law_pieces.specs.File.{File}
use Rattle.ec_law_turns.proofs.SentKnown.{BodyKept}
use Rattle.ec_law_turns.proofs.Steps.{EntryKept}
use Rattle.ec_law_turns.specs.Known.{Known}
use Rattle.ec_law_turns.specs.Shown.{Shown}
use Rattle.ec_matrix.specs.Inverse.{IsByteRow}
use Rattle.ec_law_files.specs.Laws.{BodyMade, EntryMade, OwnMade}
use Rattle.ec_law_files.specs.Plans.{AreOn, HasPlan, PutsOne, ReadsBytes, ReadsOld, file_plan, form_by}
use Rattle.ec_law_files.specs.Stripes.{IsPut, Making, makes_stripes}

-- plans for a file, and the machine of its stripes
abbrev pub FilePlans : Type 0
FilePlans = Plans ℕ (List (List ℕ)) ℕ Shape

abbrev pub StripeFile : Type 0
StripeFile = File ℕ (List (List ℕ)) Piece ℕ Shape

-- what a turn of this call plans, whose group has this head
abbrev pub plan_of : (ℕ → Making) → ℕ → Given → Head → Plan ℕ (List (List ℕ)) ℕ Shape
plan_of makings call given head = file_plan (quorum_of given) given.op (record (makings call) { head = head })

-- Turn a is one of the log and has planned what its call makes, that of the ask that began the turn; its group's head is that of all that
-- the call makes, if it makes stripes.
pub record HasFilePlan (makings : ℕ → Making) (m : Net) (b : Books) (f : StripeFile) (a : ℕ) : Type 0 where
  pub begun : 2 ^ 61 ≤ a
  pub below : a < 2 ^ 61 + m.next
  pub given : Given
  pub made : b.given (call_of (m.said (a - 2 ^ 61))) ≡ Some given
  pub head : Head
  pub has : HasPlan f a (plan_of makings (call_of (m.said (a - 2 ^ 61))) given head)
  pub own : makes_stripes given.op ≡ true → head ≡ (makings (call_of (m.said (a - 2 ^ 61)))).head

-- Each turn that has planned has its call's plan; a turn of which a write, cut or PostOp was sent has planned; and each write and cut is
-- of what its call makes.
pub record HaveFilePlans (makings : ℕ → Making) (g : ℕ) (m : Net) (v : View) (b : Books) (f : StripeFile) : Type 0 where
  pub has : (a : ℕ) → f.planned a ≡ true → HasFilePlan makings m b f a
  pub sent : (i : ℕ) (x : Message) (q : Request) → m.said i ≡ Some x → x.body ≡ ToBrick q → (is_data g q || is_post_on g q) ≡ true → (f.planned (v.of i) ≡ true) × (2 ^ 61 ≤ v.of i)
  pub put : (i : ℕ) (x : Message) (q : Request) → m.said i ≡ Some x → x.body ≡ ToBrick q → is_data g q ≡ true → (given : Given) × (b.given x.call ≡ Some given) × IsPut (makings x.call) given x.brick q

-- each chunk that was sent is one
abbrev pub AllChunks : Net → Type 0
AllChunks m = (i : ℕ) (x : Message) (q : Request) → m.said i ≡ Some x → x.body ≡ ToBrick q → AreChunks q

-- the bricks have the rows of the geometry's algorithm
abbrev pub AreRows : Geometry → (ℕ → ℕ → ℕ) → Type 0
AreRows geometry rows = (b : ℕ) → b < geometry.n → IsByteRow (quorum geometry) geometry.algorithm b (rows b)

-- each write and cut that was sent goes to stripes that its turn's plan covers
abbrev pub AreCovered : ℕ → Net → View → StripeFile → Type 0
AreCovered g m v f = (i : ℕ) (x : Message) (q : Request) → m.said i ≡ Some x → x.body ≡ ToBrick q → is_data g q ≡ true → (s : ℕ) → stripes_written q s ≡ true → f.covers (v.of i) s ≡ true

-- What a turn plans as its call sends this message is a plan: by the head of its group, which is that of all that the call makes if
-- it makes stripes.
pub record PlansFirst (makings : ℕ → Making) (g : ℕ) (b : Books) (f : StripeFile) (a call : ℕ) (given : Given) : Type 0 where
  pub head : Head
  pub group : group_of (account given (b.own call)) g ≡ Some head
  pub own : makes_stripes given.op ≡ true → head ≡ (makings call).head
  pub plan : (byte : ℕ → ℕ) → ReadsBytes byte → (n k : ℕ) (coder : Coder)
      → (f.took a).size ≡ head.size
      → ReadsOld byte (quorum_of given) coder n k f a (account given (b.own call)) g head
      → IsPlan (form_by byte (quorum_of given) coder) n k f a (plan_of makings call given head)

-- The plans have for a turn what its call makes, by the head of its group, where the turn plans by this message.
abbrev pub BodyChosen : (ℕ → Making) → ℕ → View → Books → StripeFile → FilePlans → Message → Body → Type 0
BodyChosen makings g v b f plans msg (ToBrick q) =
    (is_data g q || is_post_on g q) ≡ true → f.planned (turn_of g v msg) ≡ false
    → (given : Given) (head : Head) → b.given msg.call ≡ Some given → group_of (account given (b.own msg.call)) g ≡ Some head
    → plans.plan (turn_of g v msg) ≡ plan_of makings msg.call given head
BodyChosen makings g v b f plans msg (ToClient re reply) = Unit {0}

abbrev pub EntryChosen : (ℕ → Making) → ℕ → View → Books → StripeFile → FilePlans → Entry → Type 0
EntryChosen makings g v b f plans (Sent msg) = BodyChosen makings g v b f plans msg msg.body
EntryChosen makings g v b f plans e = Unit {0}

-- Plans that are chosen as a call sends a message: its turn takes the shape of its group as long as it has no ballot, and plans what its
-- call makes as long as it hasn't planned.
abbrev pub chosen_with : (ℕ → Making) → ℕ → ℕ → Given → Option Head → StripeFile → FilePlans → FilePlans
chosen_with makings a call given None f plans = plans
chosen_with makings a call given (Some head) f plans = record {
  took = λ x. cond ((x == a) && ((f.heads.ballot x).number == 0)) (record { size = head.size; attr = head.attr }) (plans.took x);
  plan = λ x. cond ((x == a) && not (f.planned x)) (plan_of makings call given head) (plans.plan x);
}

abbrev pub chosen_by : (ℕ → Making) → ℕ → View → Books → StripeFile → Message → Option Given → FilePlans → FilePlans
chosen_by makings g v b f msg None plans = plans
chosen_by makings g v b f msg (Some given) plans = chosen_with makings (turn_of g v msg) msg.call given (group_of (account given (b.own msg.call)) g) f plans

abbrev pub chosen_at : (ℕ → Making) → ℕ → View → Books → StripeFile → Entry → FilePlans → FilePlans
chosen_at makings g v b f (Sent msg) plans = chosen_by makings g v b f msg (b.given msg.call) plans
chosen_at makings g v b f e plans = plans

-- At an entry of a log, seen from gfid g, where what is known of such a log holds.
pub record FilingLaws : Type 0 where
  -- as a message goes out by which its turn plans
  pub first : (geometry : Geometry) (makings : ℕ → Making) (g : ℕ) (m : Net) (v : View) (b : Books) (f : StripeFile) (msg : Message) (q : Request) (given : Given)
      → msg.no ≡ m.next → MaySay geometry.n m msg msg.body → BodyKept m b msg msg.body
      → Known geometry g m v b → Shown geometry g m.said m.next v.turn v.of m.owed v.core b
      → BodyMade makings b msg msg.body → HaveFilePlans makings g m v b f
      → msg.body ≡ ToBrick q → b.given msg.call ≡ Some given
      → (is_data g q || is_post_on g q) ≡ true → f.planned (turn_of g v msg) ≡ false
      → PlansFirst makings g b f (turn_of g v msg) msg.call given
  -- what was sent is covered
  pub covered : (geometry : Geometry) (makings : ℕ → Making) (g : ℕ) (m : Net) (v : View) (b : Books) (f : StripeFile)
      → Known geometry g m v b → HaveFilePlans makings g m v b f → AreCovered g m v f
  -- and what is done puts the codes of what its turn planned
  pub coded : (geometry : Geometry) (rows : ℕ → ℕ → ℕ) (makings : ℕ → Making) (g : ℕ) (m : Net) (v : View) (b : Books) (f : StripeFile) (e : Entry)
      → Known geometry g m v b → HaveFilePlans makings g m v b f → AllChunks m → AreRows geometry rows
      → EntryCoded (of_file (quorum geometry) (by_rows (quorum geometry) rows)) g m v f e
  -- Where a PostOp was sent, what its turn's plan covers is put by the changes that the commit is made of, by the account of the call as it
  -- sent the PostOp.
  pub changed : (geometry : Geometry) (makings : ℕ → Making) (g : ℕ) (m : Net) (v : View) (b : Books) (f : StripeFile)
      → Known geometry g m v b → HaveFilePlans makings g m v b f → OwnMade makings b
      → (j : ℕ) (x : Message) (q : Request) (given : Given) (front back : List Own) (head : Head)
      → m.said j ≡ Some x → x.body ≡ ToBrick q → is_post_on g q ≡ true
      → b.given x.call ≡ Some given → b.own x.call ≡ front ++ Sends x.brick j q ∷ back
      → group_of (account given front) g ≡ Some head
      → IsAllOf (account given front) g head given.op (changes_at (at (account given front) g x.brick))
      → AreOn g (changes_at (at (account given front) g x.brick))
      → (s : ℕ) → f.covers (v.of j) s ≡ true → PutsOne g (changes_at (at (account given front) g x.brick)) s
  -- Where plans are chosen so, each turn that has planned has its call's plan after the entry too.
  pub kept : (geometry : Geometry) (left : ℕ → Leaving) → ((a : ℕ) → (left a).kept ≡ None) → (makings : ℕ → Making) (k' : ℕ) (coder : Coder) (plans : FilePlans) (n k g : ℕ) (m : Net) (v : View) (t : Story) (b : Books) (f : StripeFile) (e : Entry)
      → May geometry.n m e → EntryKept m b e
      → Known geometry g m v b → Shown geometry g m.said m.next v.turn v.of m.owed v.core b
      → EntryMade makings b e → EntryChosen makings g v b f plans e
      → HaveFilePlans makings g m v b f
      → HaveFilePlans makings g (after m e) (seen_after g m v e) (booked geometry left m t b e) (file_after (of_file k' coder) plans n k g m v f e)
  -- At the beginning no turn has planned.
  pub begun : (makings : ℕ → Making) (g : ℕ) (bricks : ℕ → Brick) (v : View) (f : StripeFile) → ((a : ℕ) → f.planned a ≡ false) → HaveFilePlans makings g (fresh bricks) v no_books f
  -- Plans can be chosen so, entry by entry: those that were read stay.
  pub chosen : (makings : ℕ → Making) (g : ℕ) (v : View) (b : Books) (f : StripeFile) (e : Entry) (plans : FilePlans) → EntryChosen makings g v b f (chosen_at makings g v b f e plans) e
  pub plan_stays : (makings : ℕ → Making) (g : ℕ) (v : View) (b : Books) (f : StripeFile) (e : Entry) (plans : FilePlans) (a : ℕ) → f.planned a ≡ true → (chosen_at makings g v b f e plans).plan a ≡ plans.plan a
  pub took_stays : (makings : ℕ → Making) (g : ℕ) (v : View) (b : Books) (f : StripeFile) (e : Entry) (plans : FilePlans) (a : ℕ) → 0 < (f.heads.ballot a).number → (chosen_at makings g v b f e plans).took a ≡ plans.took a
  -- and a turn that has no ballot takes the shape of its group
  pub took : (makings : ℕ → Making) (g : ℕ) (v : View) (b : Books) (f : StripeFile) (msg : Message) (plans : FilePlans) (given : Given) (head : Head)
      → b.given msg.call ≡ Some given → group_of (account given (b.own msg.call)) g ≡ Some head → (f.heads.ballot (turn_of g v msg)).number ≡ 0
      → (chosen_at makings g v b f (Sent msg) plans).took (turn_of g v msg) ≡ record { size = head.size; attr = head.attr }
