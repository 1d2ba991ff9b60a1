-- What an entry of a log makes of a head: it stays, or a request was done that leaves it so.
use Rattle.std.proofs.Common.{◌≡◌, ◌⊎◌, ℕ, ◌*◌, Bool, true, false, cond, ◌==◌, Option, Some, None, length, take, refl, sym, ◌∙◌, ap, subst, inl, inr}
use Rattle.std.specs.Prelude.{is_some, nat_lt}
use Rattle.std.specs.Option.{option_map}
use Rattle.ec_attr.specs.Bricks.{count_below}
use Rattle.ec_attr.specs.Head.{with_dirty}
use Rattle.ec_attr.specs.declared.config.Config.{Config}
use Rattle.ec_attr.specs.declared.gfid.Gfid.{Gfid}
use Rattle.ec_attr.specs.declared.head.Head.{Head}
use Rattle.ec_store.specs.Put.{put}
use Rattle.ec_store.specs.Records.{Record, Records, head_at, headed, named, replaced, with_bytes, with_length}
use Rattle.ec_wire.specs.declared.entry.Entry.{Entry}
use Rattle.ec_wire.specs.declared.entry.Entry.TheVariants.{Called, Sent, Executed, Heard, Lost, GivenUp, Stopped, Returned, Cut, Died, Yielded, Torn, Answered, Replaced}
use Rattle.ec_wire.specs.declared.message.Body.{Body}
use Rattle.ec_wire.specs.declared.message.Body.TheVariants.{ToBrick, ToClient}
use Rattle.ec_wire.specs.declared.message.Message.{Message}
use Rattle.ec_wire.specs.declared.request.Request.{Request}
use Rattle.ec_wire.specs.declared.request.Request.TheVariants.{Ask, Release, Query, PreOp, ReadChunks, WriteChunks, SetLength, PostOp, Clear, NameGet, NamesAfter, NameSet, NamesPut, Make, Made, Unmake, Mark, Unmark, GfidsAfter}
use Rattle.ec_brick.specs.Meets.{failing_at}
use Rattle.ec_brick.specs.Replies.{own_of}
use Rattle.ec_brick.specs.Rows.{fence, row_of}
use Rattle.ec_brick.specs.State.{State as Brick}
use Rattle.ec_brick.specs.Step.{Failing, Fine, Before, Within, Out, by_row, cut_off, executed, fenced, quiet as quiet_out, refusal_of, started, stopped, torn_off as torn_at, unguarded, work}
use Rattle.ec_brick.specs.Work.{bytes_of, committed, new_head, unmarked, with_head_by, with_unset, work_of}
use Rattle.ec_brick.specs.declared.row.Check.TheVariants.{Absent}
use Rattle.ec_brick.specs.declared.row.Need.TheVariants.{Writing}
use Rattle.ec_brick.specs.declared.row.Row.{Row}
use Rattle.ec_history.specs.IsRun.{May as MayEnter, MayExecute, MayTear, is_fault}
use Rattle.ec_history.specs.Run.{Net, after, executed as executed_net, executed_by, failing, heard, heard_by, out_of, torn_by, torn_off, torn_out, wiped}
use Rattle.ec_history.specs.Story.{is_done}
use Rattle.ec_law_net.proofs.Outcomes.{IsDone, IsNot, head_kept, outcome}
use Rattle.ec_law_net.proofs.Requests.{absent}
use Rattle.ec_law_turns.proofs.Basics.{equal, some_is, some_none}
use Rattle.ec_law_data.proofs.Entries.{fault_not_done}
use Rattle.ec_law_data.proofs.Outs.{Torn as TornOff, torn, untorn}

-- ## Requests

-- what a change of this head makes of it
abbrev pub Changed : (Head → Head) → Option Head → Head → Type 0
Changed f old now = (h : Head) × (old ≡ Some h) × (now ≡ f h)

-- What a request leaves of the head of a gfid, of a brick with this config, where this head stood, or none. Heals aside.
abbrev pub Leaves : Config → ℕ → Request → Option Head → Head → Type 0
Leaves config g (PreOp x n at dirty) old now = (x.0 ≡ g) × Changed (with_dirty dirty) old now
Leaves config g (PostOp x n at version size attr) old now = (x.0 ≡ g) × Changed (committed version size attr) old now
Leaves config g (Clear x n at) old now = (x.0 ≡ g) × Changed (with_dirty 0) old now
Leaves config g (Made x n child) old now = (child.0 ≡ g) × Changed (with_dirty 0) old now
Leaves config g (Make x n child) old now = (child.gfid.0 ≡ g) × (old ≡ None) × (now ≡ new_head config child.kind)
Leaves config g (Mark x n heal head) old now = x.0 ≡ g
Leaves config g (Unmark x n at dirty) old now = x.0 ≡ g
Leaves config g q old now = ⊥

put_head : (m : Records) (x g : ℕ) (o : Option Record) (now : Head) → head_at (put m x o) g ≡ Some now → ((x ≡ g) × (option_map (λ r. r.head) o ≡ Some now)) ⊎ (head_at m g ≡ Some now)
put_head m x g o now e = at (g == x) refl e
  where
    at : (t : Bool) → (g == x) ≡ t → option_map (λ (r : Record). r.head) (cond t o (m g)) ≡ Some now → ((x ≡ g) × (option_map (λ r. r.head) o ≡ Some now)) ⊎ (head_at m g ≡ Some now)
    at true u z = inl (sym (equal g x u), z)
    at false u z = inr z

headed_is : (o : Option Record) (h : Head) → (headed o h).head ≡ h
headed_is None h = refl
headed_is (Some r) h = refl

changed_head : (m : Records) (x g : ℕ) (f : Head → Head) (now : Head) → head_at (with_head_by m x f) g ≡ Some now → ((x ≡ g) × Changed f (head_at m g) now) ⊎ (head_at m g ≡ Some now)
changed_head m x g f now e = by (put_head m x g (option_map (λ (r : Record). record r { head = f r.head }) (m x)) now e)
  where
    of : (o : Option Record) → option_map (λ r. r.head) (option_map (λ (r : Record). record r { head = f r.head }) o) ≡ Some now → Changed f (option_map (λ r. r.head) o) now
    of None z = absurd (cc)
    of (Some r) z = (r.head, refl, sym (some_is (f r.head) now z))

    by : ((x ≡ g) × (option_map (λ r. r.head) (option_map (λ (r : Record). record r { head = f r.head }) (m x)) ≡ Some now)) ⊎ (head_at m g ≡ Some now) → ((x ≡ g) × Changed f (head_at m g) now) ⊎ (head_at m g ≡ Some now)
    by (inl z) = inl (z.0, subst (λ (y : ℕ). Changed f (head_at m y) now) z.0 (of (m x) z.1))
    by (inr z) = inr z

module _ (config : Config) (g : ℕ) (m : Records) (now : Head) where
  -- the head is as it was, or as the request leaves it
  abbrev Ends : Request → Type 0
  Ends q = (head_at m g ≡ Some now) ⊎ Leaves config g q (head_at m g) now

  turned : {A B : Type 0} → A ⊎ B → B ⊎ A
  turned (inl a) = inr a
  turned (inr b) = inl b

  put_mark : (x : ℕ) (o : Option Record) → head_at (put m x o) g ≡ Some now → (head_at m g ≡ Some now) ⊎ (x ≡ g)
  put_mark x o e = at (put_head m x g o now e)
    where
      at : ((x ≡ g) × (option_map (λ r. r.head) o ≡ Some now)) ⊎ (head_at m g ≡ Some now) → (head_at m g ≡ Some now) ⊎ (x ≡ g)
      at (inl z) = inr z.0
      at (inr z) = inl z

  put_change : (x : ℕ) (f : Head → Head) → head_at (with_head_by m x f) g ≡ Some now → (head_at m g ≡ Some now) ⊎ (x ≡ g)
  put_change x f e = at (changed_head m x g f now e)
    where
      at : ((x ≡ g) × Changed f (head_at m g) now) ⊎ (head_at m g ≡ Some now) → (head_at m g ≡ Some now) ⊎ (x ≡ g)
      at (inl z) = inr z.0
      at (inr z) = inl z

  -- work that was allowed: a Make finds no record
  worked_head : (q : Request) → ((x : Gfid) (n : ℕ) (child : _) → q ≡ Make x n child → head_at m child.gfid.0 ≡ None) → head_at (work_of config q m) g ≡ Some now → Ends q
  worked_head (Ask x domain kind) none e = inl e
  worked_head (Release x n) none e = inl e
  worked_head (Query x n) none e = inl e
  worked_head (PreOp x n at dirty) none e = turned (changed_head m x.0 g (with_dirty dirty) now e)
  worked_head (ReadChunks x n first count) none e = inl e
  worked_head (WriteChunks x n first chunks) none e = inl (sym (head_kept m x.0 (λ r. with_bytes r (512 * first) (bytes_of chunks)) (λ r. refl) g) ∙ e)
  worked_head (SetLength x n keep count) none e = inl (sym (head_kept m x.0 (λ r. with_length r keep count) (λ r. refl) g) ∙ e)
  worked_head (PostOp x n at version size attr) none e = turned (changed_head m x.0 g (committed version size attr) now e)
  worked_head (Clear x n at) none e = turned (changed_head m x.0 g (with_dirty 0) now e)
  worked_head (NameGet x n name) none e = inl e
  worked_head (NamesAfter x n start) none e = inl e
  worked_head (NameSet x n name child) none e = inl (sym (head_kept m x.0 (λ r. record r { names = named r.names name child }) (λ r. refl) g) ∙ e)
  worked_head (NamesPut x n start upto list) none e = inl (sym (head_kept m x.0 (λ r. record r { names = replaced r.names start upto list }) (λ r. refl) g) ∙ e)
  worked_head (Make x n child) none e = at (put_head m child.gfid.0 g (Some (headed (m child.gfid.0) (new_head config child.kind))) now e)
    where
      at : ((child.gfid.0 ≡ g) × (Some (headed (m child.gfid.0) (new_head config child.kind)).head ≡ Some now)) ⊎ (head_at m g ≡ Some now) → Ends (Make x n child)
      at (inl z) = inr (z.0, ap (head_at m) (sym z.0) ∙ none x n child refl, sym (some_is (headed (m child.gfid.0) (new_head config child.kind)).head now z.1) ∙ headed_is (m child.gfid.0) (new_head config child.kind))
      at (inr z) = inl z
  worked_head (Made x n child) none e = turned (changed_head m child.0 g (with_dirty 0) now e)
  worked_head (Unmake x n child) none e = at (put_head m child.0 g None now e)
    where
      at : ((child.0 ≡ g) × (None ≡ Some now)) ⊎ (head_at m g ≡ Some now) → Ends (Unmake x n child)
      at (inl z) = absurd (some_none now (sym z.1))
      at (inr z) = inl z
  worked_head (Mark x n heal head) none e = put_mark x.0 (Some (headed (m x.0) head)) e
  worked_head (Unmark x n at dirty) none e = put_change x.0 (unmarked dirty) e
  worked_head (GfidsAfter start dirty) none e = inl e

-- ## Executions

module _ (s : Brick) (f : Failing) (g : ℕ) (now : Head) where
  -- the head is as it was, or the request was done and leaves it so
  abbrev pub Comes : Request → Out → Type 0
  Comes q o = (head_at s.records g ≡ Some now) ⊎ ((is_done o.says ≡ true) × Leaves s.config g q (head_at s.records g) now)

  -- what leaves a head was done
  leaves_done : (q : Request) → Leaves s.config g q (head_at s.records g) now → is_done (own_of q s.records) ≡ true
  leaves_done (PreOp x n at dirty) l = refl
  leaves_done (PostOp x n at version size attr) l = refl
  leaves_done (Clear x n at) l = refl
  leaves_done (Made x n child) l = refl
  leaves_done (Make x n child) l = refl
  leaves_done (Mark x n heal head) l = refl
  leaves_done (Unmark x n at dirty) l = refl
  leaves_done q l = absurd l

  row_head : (q : Request) (r : Row) → (fence s.asks r ≡ None → refusal_of s r (head_at s.records r.subject.0) ≡ None → (x : Gfid) (n : ℕ) (child : _) → q ≡ Make x n child → head_at s.records child.gfid.0 ≡ None) → head_at (by_row s f (work s q) (Some r)).brick.records g ≡ Some now → Comes q (by_row s f (work s q) (Some r))
  row_head q r none e = by (outcome s q r f)
    where
      by : IsDone s q r (fenced s f (work s q) r (fence s.asks r)) ⊎ IsNot s (fenced s f (work s q) r (fence s.asks r)) → Comes q (by_row s f (work s q) (Some r))
      by (inr o) = inl (sym (o.heads g) ∙ e)
      by (inl o) = at (worked_head s.config g s.records now q (none o.passed o.allowed) (sym (ap (λ (b : Brick). head_at b.records g) o.brick) ∙ e))
        where
          at : (head_at s.records g ≡ Some now) ⊎ Leaves s.config g q (head_at s.records g) now → Comes q (by_row s f (work s q) (Some r))
          at (inl z) = inl z
          at (inr z) = inr (ap is_done o.says ∙ leaves_done q z, z)

  free_head : (f : Failing) (start : Option Gfid) (dirty : Bool) → head_at (unguarded s f (own_of (GfidsAfter start dirty) s.records)).brick.records g ≡ Some now → head_at s.records g ≡ Some now
  free_head Fine start dirty e = e
  free_head Before start dirty e = e
  free_head Within start dirty e = e

  -- of a request that has a row and is no Make
  plain_head : (q : Request) → ((x : Gfid) (n : ℕ) (child : _) → q ≡ Make x n child → ⊥) → (o : Option Row) → head_at (by_row s f (work s q) o).brick.records g ≡ Some now → Comes q (by_row s f (work s q) o)
  plain_head q never None e = inl e
  plain_head q never (Some r) e = row_head q r (λ p a x n child is. absurd (never x n child is)) e

  pub executed_head : (client number : ℕ) (q : Request) → head_at (executed s f client number q).brick.records g ≡ Some now → Comes q (executed s f client number q)
  executed_head client number (Ask x domain kind) e = inl e
  executed_head client number (Release x n) e = inl e
  executed_head client number (GfidsAfter start dirty) e = inl (free_head f start dirty e)
  executed_head client number (Make x n child) e = row_head (Make x n child) (record { gfid = x; grant = n; need = Writing; heal = None; subject = child.gfid; check = Absent }) (λ p a y k other is. same other is (absent n true (s.removed child.gfid.0) (head_at s.records child.gfid.0) a).0) e
    where
      same : (other : _) {y : Gfid} {k : ℕ} → Make x n child ≡ Make y k other → head_at s.records child.gfid.0 ≡ None → head_at s.records other.gfid.0 ≡ None
      same other is h = cc
  executed_head client number q e = plain_head q (λ x n child is. absurd (cc)) (row_of q) e

-- what is left of a write that was cut short
torn_head : (s : Brick) (g count : ℕ) (q : Request) (m : Records) → TornOff s q count m → head_at m g ≡ head_at s.records g
torn_head s g count (WriteChunks x n first chunks) m t = ap (λ (z : Records). head_at z g) t ∙ head_kept s.records x.0 (λ r. with_unset r (512 * first) (length (take count (bytes_of chunks)))) (λ r. refl) g
torn_head s g count q m t = ap (λ (z : Records). head_at z g) t

torn_heads : (s : Brick) (g count : ℕ) (version : Option ℕ) (q : Request) → head_at (torn_at s (failing_at version) q count).brick.records g ≡ head_at s.records g
torn_heads s g count None q = ap (λ (z : Records). head_at z g) (untorn g s count q)
torn_heads s g count (Some v) q = at (torn g s count q)
  where
    at : ((torn_at s Within q count).brick.records ≡ s.records) ⊎ TornOff s q count (torn_at s Within q count).brick.records → head_at (torn_at s Within q count).brick.records g ≡ head_at s.records g
    at (inl e) = ap (λ (z : Records). head_at z g) e
    at (inr t) = torn_head s g count q (torn_at s Within q count).brick.records t

-- ## Entries

-- By entry e brick b did a request that leaves the head so.
pub record Did (g : ℕ) (m : Net) (e : Entry) (b : ℕ) (now : Head) : Type 0 where
  pub number : ℕ
  pub version : Option ℕ
  pub message : Message
  pub request : Request
  pub entry : e ≡ Executed number version false
  pub said : m.said number ≡ Some message
  pub body : message.body ≡ ToBrick request
  pub brick : message.brick ≡ b
  pub done : is_done (out_of m message request version false).says ≡ true
  pub leaves : Leaves (m.brick b).config g request (head_at (m.brick b).records g) now

module _ (g : ℕ) (m : Net) (b : ℕ) (now : Head) where
  abbrev pub Stays : Entry → Type 0
  Stays e = (head_at (m.brick b).records g ≡ Some now) ⊎ Did g m e b now

  -- one brick is another
  placed : (e : Entry) (c : ℕ) (new : Brick) (bricks : ℕ → Brick) → bricks ≡ put m.brick c new → (c ≡ b → head_at new.records g ≡ Some now → Stays e) → head_at (bricks b).records g ≡ Some now → Stays e
  placed e c new bricks same here is = at (b == c) refl (sym (ap (λ (f : ℕ → Brick). head_at (f b).records g) same) ∙ is)
    where
      at : (t : Bool) → (b == c) ≡ t → head_at (cond t new (m.brick b)).records g ≡ Some now → Stays e
      at true u z = here (sym (equal b c u)) z
      at false u z = inl z

  -- and has the head that it had
  settled : (e : Entry) (c : ℕ) (new : Brick) (bricks : ℕ → Brick) → bricks ≡ put m.brick c new → (head_at new.records g ≡ Some now → head_at (m.brick c).records g ≡ Some now) → head_at (bricks b).records g ≡ Some now → Stays e
  settled e c new bricks same keeps = placed e c new bricks same (λ at z. inl (subst (λ (y : ℕ). head_at (m.brick y).records g ≡ Some now) at (keeps z)))

  module _ (i : ℕ) (version : Option ℕ) where
    on_executed : (failed : Bool) → MayExecute m i version failed → head_at ((after m (Executed i version failed)).brick b).records g ≡ Some now → Stays (Executed i version failed)
    on_executed failed may is = placed (Executed i version failed) msg.brick (out_of m msg q version failed).brick (after m (Executed i version failed)).brick
        (ap (λ (o : Option Message). (executed_net m o version failed).brick) may.at.said ∙ ap (λ (z : Body). (executed_by m msg z version failed).brick) may.at.body)
        (λ at z. by failed may.fault at (executed_head s (failing failed version) g now msg.client msg.no q (sym (ap (λ (o : Out). head_at o.brick.records g) (went failed)) ∙ z))) is
      where
        msg : Message
        msg = may.message

        q : Request
        q = may.request

        s : Brick
        s = m.brick msg.brick

        went : (failed : Bool) → out_of m msg q version failed ≡ executed s (failing failed version) msg.client msg.no q
        went failed = ap (λ (t : Bool). cond t (executed s (failing failed version) msg.client msg.no q) (quiet_out s)) may.at.up

        by : (failed : Bool) → failed ≡ is_fault (out_of m msg q version failed).says → msg.brick ≡ b → Comes s (failing failed version) g now q (executed s (failing failed version) msg.client msg.no q) → Stays (Executed i version failed)
        by failed fault at (inl z) = inl (subst (λ (y : ℕ). head_at (m.brick y).records g ≡ Some now) at z)
        by true fault at (inr z) = absurd (let d = fault_not_done (out_of m msg q version true).says (sym fault) in let w = sym z.0 ∙ (sym (ap (λ (o : Out). is_done o.says) (went true)) ∙ d) in cc)
        by false fault at (inr z) = inr (record {
          number = i;
          version = version;
          message = msg;
          request = q;
          entry = refl;
          said = may.at.said;
          body = may.at.body;
          brick = at;
          done = ap (λ (o : Out). is_done o.says) (went false) ∙ z.0;
          leaves = subst (λ (y : ℕ). Leaves (m.brick y).config g q (head_at (m.brick y).records g) now) at z.1;
        })

    on_torn : (count : ℕ) → MayTear m i count version → head_at ((after m (Torn i count version)).brick b).records g ≡ Some now → Stays (Torn i count version)
    on_torn count may is = settled (Torn i count version) msg.brick (torn_out m msg q count version).brick (after m (Torn i count version)).brick
        (ap (λ (o : Option Message). (torn_off m o count version).brick) may.at.said ∙ ap (λ (z : Body). (torn_by m msg z count version).brick) may.at.body)
        (λ z. sym (ap (λ (o : Out). head_at o.brick.records g) went ∙ torn_heads s g count version q) ∙ z) is
      where
        msg : Message
        msg = may.message

        q : Request
        q = may.request

        s : Brick
        s = m.brick msg.brick

        went : torn_out m msg q count version ≡ torn_at s (failing_at version) q count
        went = ap (λ (t : Bool). cond t (torn_at s (failing_at version) q count) (quiet_out s)) may.at.up

  pub heard_bricks : (o : Option Message) → (heard m o).brick ≡ m.brick
  heard_bricks None = refl
  heard_bricks (Some msg) = by msg.body
    where
      by : (z : Body) → (heard_by m msg z).brick ≡ m.brick
      by (ToBrick q) = refl
      by (ToClient re reply) = refl

  wiped_keeps : (removed : ℕ) (all : Bool) (records : Records) → head_at (wiped removed all records) g ≡ Some now → head_at records g ≡ Some now
  wiped_keeps removed true records e = absurd (cc)
  wiped_keeps removed false records e = at (nat_lt (count_below g (λ x. is_some (records x))) removed) e
    where
      at : (t : Bool) → option_map (λ (r : Record). r.head) (cond t None (records g)) ≡ Some now → head_at records g ≡ Some now
      at true e = absurd (cc)
      at false e = e

  pub entry_head : (n : ℕ) (e : Entry) → MayEnter n m e → head_at ((after m e).brick b).records g ≡ Some now → Stays e
  entry_head n (Called a client op) may is = inl is
  entry_head n (Sent msg) may is = inl is
  entry_head n (Executed i version failed) may is = on_executed i version failed may is
  entry_head n (Heard i) may is = inl (sym (ap (λ (f : ℕ → Brick). head_at (f b).records g) (heard_bricks (m.said i))) ∙ is)
  entry_head n (Lost i) may is = inl is
  entry_head n (GivenUp client brick i) may is = inl is
  entry_head n (Stopped c) may is = settled (Stopped c) c (stopped (m.brick c)) (after m (Stopped c)).brick refl (λ z. z) is
  entry_head n (Returned c) may is = settled (Returned c) c (started (m.brick c)) (after m (Returned c)).brick refl (λ z. z) is
  entry_head n (Cut client c) may is = settled (Cut client c) c (cut_off (m.brick c) client).brick (after m (Cut client c)).brick refl (λ z. z) is
  entry_head n (Died client) may is = inl is
  entry_head n (Yielded client) may is = inl is
  entry_head n (Torn i count version) may is = on_torn i version count may is
  entry_head n (Answered a answer) may is = inl is
  entry_head n (Replaced c removed all) may is = settled (Replaced c removed all) c (record (m.brick c) { records = wiped removed all (m.brick c).records }) (after m (Replaced c removed all)).brick refl (λ z. wiped_keeps removed all (m.brick c).records z) is
