-- Which reads of a call were sent after the PreOp was done: along its account, as it goes on.
use Rattle.std.proofs.Common.{◌≡◌, ◌≢◌, ◌⊎◌, ◌+◌, ℕ, Bool, true, false, not, cond, ◌==◌, ◌&&◌, Option, Some, None, List, [], ◌∷◌, refl, sym, ◌∙◌, ap, subst, inl, inr, arith, ⊎_elim}
use Rattle.ec_attr.specs.declared.geometry.Geometry.{Geometry}
use Rattle.ec_attr.specs.declared.kind.Domain.TheVariants.{Heal, Inode}
use Rattle.ec_store.specs.Put.{put}
use Rattle.ec_wire.specs.declared.entry.Entry.{Entry}
use Rattle.ec_wire.specs.declared.entry.Entry.TheVariants.{Answered, Called, GivenUp, Heard, Sent}
use Rattle.ec_wire.specs.declared.message.Body.{Body}
use Rattle.ec_wire.specs.declared.message.Body.TheVariants.{ToBrick, ToClient}
use Rattle.ec_wire.specs.declared.message.Message.{Message}
use Rattle.ec_wire.specs.declared.op.Op.{Op}
use Rattle.ec_wire.specs.declared.reply.Reply.{Reply}
use Rattle.ec_wire.specs.declared.request.Request.{Request}
use Rattle.ec_wire.specs.declared.request.Request.TheVariants.{Ask, PreOp, Query, Release}
use Rattle.ec_conduct.specs.Account.{Account, Dealings, Exchange, Place, Wait, after as after_own, asked, at, begun, gave_up, gfid_of, heard_by, left_by, noted, over, released, renewed, sent, told, with_place}
use Rattle.ec_conduct.specs.Conduct.{is_release}
use Rattle.ec_conduct.specs.Done.{did}
use Rattle.ec_conduct.specs.Given.{Given}
use Rattle.ec_conduct.specs.Opened.{account, kept_dealings, opened}
use Rattle.ec_conduct.specs.Own.{Answers, GivesUp, Hears, Own, Sends}
use Rattle.ec_conduct.specs.declared.kept.Kept.{Kept}
use Rattle.ec_history.specs.Accounts.{Books, Leaving, booked, given_to, hears as hears_books, hears_body, own_of, sender, sends as sends_books, taken_over, with_own}
use Rattle.ec_history.specs.IsRun.{May as MayEnter}
use Rattle.ec_history.specs.Run.{Net, call_of, is_number}
use Rattle.ec_history.specs.Story.{Story}
use Rattle.ec_law_turns.specs.Follows.{All, Follows, IsOfTurn, Numbers}
use Rattle.ec_law_turns.specs.Once.{is_plain_pre}
use Rattle.ec_law_turns.proofs.Basics.{differ, equal, put_here, put_some, put_there, some_is, some_none, wait_of}
use Rattle.ec_law_turns.proofs.Hearing.{one_more}
use Rattle.ec_law_turns.proofs.Numbered.{sender_is}
use Rattle.ec_law_turns.proofs.Sorts.{over_apart, over_here, over_waits, waits_kept, waits_sent}
use Rattle.ec_law_data.specs.Forms.{is_chunk_read}

-- ## Windows

-- what holds of each brick's window on the gfid, and of an empty one, holds as the account goes on
module _ (W : ℕ → List Exchange → Type 0) (none : (b : ℕ) → W b []) where
  abbrev Each : Dealings → Type 0
  Each d = (b : ℕ) → W b (d.place b).window

  placed : (d : Dealings) (x : ℕ) (p : Place) → Each d → W x p.window → Each (with_place d x p)
  placed d x p all now b = either (b == x) refl
    where
      either : (t : Bool) → (b == x) ≡ t → W b ((with_place d x p).place b).window
      either true h = subst (λ (y : Place). W b y.window) (sym (put_here d.place x p b (sym (equal b x h)))) (subst (λ (y : ℕ). W y p.window) (sym (equal b x h)) now)
      either false h = subst (λ (y : Place). W b y.window) (sym (put_there d.place x p b (differ b x h))) (all b)

  dealt : (on : ℕ → Dealings) (x g : ℕ) (d : Dealings) → Each (on g) → (x ≡ g → Each d) → Each (put on x d g)
  dealt on x g d all now = either (g == x) refl
    where
      either : (t : Bool) → (g == x) ≡ t → Each (put on x d g)
      either true e = subst Each (sym (put_here on x d g (sym (equal g x e)))) (now (sym (equal g x e)))
      either false e = subst Each (sym (put_there on x d g (differ g x e))) all

  asks : (d : Dealings) (b i : ℕ) → Each d → Each (asked d b i Inode)
  asks d b i all = by d.queried
    where
      by : (o : Option ℕ) → Each (with_place (begun d o) b (record ((begun d o).place b) { inode = Some (record { number = i; granted = false }) }))
      by None = placed d b (record (d.place b) { inode = Some (record { number = i; granted = false }) }) all (all b)
      by (Some s) = placed (renewed d) b (record ((renewed d).place b) { inode = Some (record { number = i; granted = false }) }) none (none b)

  abbrev here : (c : Account) (x g : ℕ) → x ≡ g → Each (c.on g) → Each (c.on x)
  here c x g e all = subst (λ (y : ℕ). Each (c.on y)) (sym e) all

  windows_sent : (c : Account) (g b i : ℕ) (q : Request) → Each (c.on g) → Each ((sent c b i q).on g)
  windows_sent c g b i (Ask x Inode kind) all = dealt c.on x.0 g (asked (c.on x.0) b i Inode) all (λ e. asks (c.on x.0) b i (here c x.0 g e all))
  windows_sent c g b i (Ask x Heal kind) all = dealt c.on x.0 g (asked (c.on x.0) b i Heal) all (λ e. placed (c.on x.0) b (record ((c.on x.0).place b) { heal = Some (record { number = i; granted = false }) }) (here c x.0 g e all) (here c x.0 g e all b))
  windows_sent c g b i (Release x n) all = dealt c.on x.0 g (with_place (c.on x.0) b (released (at c x.0 b) n)) all (λ e. placed (c.on x.0) b (released (at c x.0 b) n) (here c x.0 g e all) (here c x.0 g e all b))
  windows_sent c g b i (Query x n) all = dealt c.on x.0 g (record (c.on x.0) { queried = Some c.steps }) all (λ e. here c x.0 g e all)
  windows_sent c g b i (PreOp x n version dirty) all = dealt c.on x.0 g (record (c.on x.0) { dirty = Some dirty }) all (λ e. here c x.0 g e all)
  windows_sent c g b i q all = all

-- ## Reads after the PreOp

module _ (g : ℕ) (late : ℕ → Bool) where
  -- each read of the list came after a PreOp that was done on an unmarked record
  abbrev pub Since : List Exchange → Type 0
  Since [] = Unit {0}
  Since (e ∷ es) = (is_chunk_read g e.request ≡ true → did is_plain_pre es ≡ true → late e.number ≡ true) × Since es

  -- and so will what is waited for
  abbrev pub Timed : (ℕ → Option Wait) → ℕ → List Exchange → Type 0
  Timed waits b es = Since es × ((w : Wait) → waits b ≡ Some w → is_chunk_read g w.request ≡ true → did is_plain_pre es ≡ true → late w.number ≡ true)

  abbrev pub InTime : Account → Type 0
  InTime c = (b : ℕ) → Timed c.waits b ((c.on g).place b).window

  none_timed : (waits : ℕ → Option Wait) (b : ℕ) → Timed waits b []
  none_timed waits b = (tt, λ w is read h. absurd (cc))

  -- ## A request is over

  over_timed : (c : Account) (b : ℕ) (w : Wait) → c.waits b ≡ Some w → (e : Exchange) → e.number ≡ w.number → e.request ≡ w.request → InTime c → InTime (over c b e)
  over_timed c b w is e number request all = at (gfid_of e.request) refl
    where
      waits' : ℕ → Option Wait
      waits' = put c.waits b None

      -- the windows as they were
      old : (x : ℕ) → Timed (put c.waits b None) x ((c.on g).place x).window
      old x = ((all x).0, λ y h. ⊎_elim (λ k. absurd (some_none y (sym k.1))) (λ k. (all x).1 y k.1) (put_some c.waits b None x y h))

      by_waits : (d : Dealings) → (over c b e).on g ≡ d → ((x : ℕ) → Timed (put c.waits b None) x (d.place x).window) → InTime (over c b e)
      by_waits d is h x = subst (λ (waits : ℕ → Option Wait). Timed waits x (((over c b e).on g).place x).window) (sym (over_waits g c b e)) (subst (λ (y : Dealings). Timed (put c.waits b None) x (y.place x).window) (sym is) (h x))

      apart : gfid_of e.request ≢ Some g → InTime (over c b e)
      apart ne = by_waits (c.on g) (over_apart g c b e ne) old

      there : gfid_of e.request ≡ Some g → InTime (over c b e)
      there on = by_waits (with_place (c.on g) b (noted ((c.on g).place b) e)) (over_here g c b e on)
          (placed (Timed (put c.waits b None)) (none_timed (put c.waits b None)) (c.on g) b (noted ((c.on g).place b) e) old (
            ((λ read h. subst (λ (j : ℕ). late j ≡ true) (sym number) ((all b).1 w is (ap (is_chunk_read g) (sym request) ∙ read) h)), (all b).0),
            λ y h. absurd (some_none y (sym h ∙ put_here c.waits b None b refl)),
          ))

      at : (o : Option ℕ) → gfid_of e.request ≡ o → InTime (over c b e)
      at None h = apart (λ z. let y = sym h ∙ z in cc)
      at (Some x) h = either (x == g) refl
        where
          either : (t : Bool) → (x == g) ≡ t → InTime (over c b e)
          either true k = there (h ∙ ap (λ (y : ℕ). Some y) (equal x g k))
          either false k = apart (λ z. differ x g k (some_is x g (sym h ∙ z)))

  hears_timed : (c : Account) (b i : ℕ) (reply : Reply) → InTime c → InTime (heard_by c b (c.waits b) i reply)
  hears_timed c b i reply all = at (c.waits b) refl
    where
      at : (o : Option Wait) → c.waits b ≡ o → InTime (heard_by c b o i reply)
      at None e = all
      at (Some w) e = either (w.number == i)
        where
          either : (t : Bool) → InTime (cond t (told c b w reply) c)
          either true = over_timed c b w e (record { number = w.number; request = w.request; reply = Some reply }) refl refl all
          either false = all

  gives_up_timed : (c : Account) (b i : ℕ) → InTime c → InTime (left_by c b (c.waits b) i)
  gives_up_timed c b i all = at (c.waits b) refl
    where
      at : (o : Option Wait) → c.waits b ≡ o → InTime (left_by c b o i)
      at None e = all
      at (Some w) e = either (w.number == i)
        where
          either : (t : Bool) → InTime (cond t (gave_up c b w) c)
          either true = over_timed c b w e (record { number = w.number; request = w.request; reply = None }) refl refl all
          either false = all

  -- ## A request is sent

  sends_timed : (c : Account) (b i : ℕ) (q : Request) → (is_chunk_read g q ≡ true → did is_plain_pre ((c.on g).place b).window ≡ true → late i ≡ true) → InTime c → InTime (sent c b i q)
  sends_timed c b i q now all = windows_sent (Timed (sent c b i q).waits) (none_timed (sent c b i q).waits) c g b i q (either (is_release q) refl)
    where
      either : (t : Bool) → is_release q ≡ t → (x : ℕ) → Timed (sent c b i q).waits x ((c.on g).place x).window
      either true rel x = subst (λ (waits : ℕ → Option Wait). Timed waits x ((c.on g).place x).window) (sym (waits_kept g c b i q rel)) (all x)
      either false rel x = subst (λ (waits : ℕ → Option Wait). Timed waits x ((c.on g).place x).window) (sym (waits_sent g c b i q rel)) (
        (all x).0,
        λ w h read so. ⊎_elim
            (λ k. let same = some_is (wait_of i q) w k.1 in subst (λ (y : Wait). late y.number ≡ true) same (now (ap (λ (y : Wait). is_chunk_read g y.request) same ∙ read) (subst (λ (y : ℕ). did is_plain_pre ((c.on g).place y).window ≡ true) k.0 so)))
            (λ k. (all x).1 w k.1 read so)
            (put_some c.waits b (Some (wait_of i q)) x w h),
      )

  opens_timed : (given : Given) → given.kept ≡ None → InTime (opened given)
  opens_timed given none b = subst (λ (o : Option Kept). Timed (λ x. None) b ((kept_dealings o g).place b).window) (sym none) (none_timed (λ x. None) b)

-- ## More messages

module _ (g : ℕ) (said : ℕ → Option Message) (turn : ℕ → Option ℕ) (of : ℕ → ℕ) (moment : ℕ → Bool) (late late' : ℕ → Bool) (still : (i : ℕ) (x : Message) → said i ≡ Some x → late' i ≡ late i) where
  since_later : (a b : ℕ) (es : List Exchange) → All (λ e. IsOfTurn said turn of a b e.number e.request) es → Since g late es → Since g late' es
  since_later a b [] all h = tt
  since_later a b (e ∷ es) all h = (λ read so. still e.number all.0.0.message all.0.0.is ∙ h.0 read so, since_later a b es all.1 h.1)

  pub in_time_later : (a : ℕ) (c : Account) → Follows g said turn of moment a c → InTime g late c → InTime g late' c
  in_time_later a c f all b = (since_later a b ((c.on g).place b).window (f.window b) (all b).0, λ w is read so. let s = f.waiting b w is in still w.number s.message s.is ∙ (all b).1 w is read so)

-- ## The books of a log

abbrev pub AllInTime : ℕ → (ℕ → Bool) → Books → Type 0
AllInTime g late b = (a : ℕ) (given : Given) → b.given a ≡ Some given → InTime g late (account given (b.own a))

module _ (geometry : Geometry) (g : ℕ) (m : Net) (b : Books) (numbers : Numbers geometry m.said m.owed m.calls m.asker b) (late : ℕ → Bool) (all : AllInTime g late b) where
  own_more : (x : ℕ) (e : Own) → ((given : Given) → b.given x ≡ Some given → InTime g late (account given (b.own x)) → InTime g late (after_own (account given (b.own x)) e)) → AllInTime g late (with_own b x e)
  own_more x e goes = one_more (λ a c. InTime g late c) b x e goes all

  sent_by : (z : Body) (msg : Message) → ((q : Request) (given : Given) → z ≡ ToBrick q → sender m b msg q ≡ Some msg.call → b.given msg.call ≡ Some given → is_chunk_read g q ≡ true → did is_plain_pre (((account given (b.own msg.call)).on g).place msg.brick).window ≡ true → late msg.no ≡ true) → AllInTime g late (sends_books m b msg z)
  sent_by (ToClient re reply) msg now = all
  sent_by (ToBrick q) msg now = by (sender m b msg q) refl (sender_is geometry m b numbers msg q)
    where
      by : (o : Option ℕ) → sender m b msg q ≡ o → (sender m b msg q ≡ None) ⊎ (sender m b msg q ≡ Some msg.call) → AllInTime g late (own_of b o (Sends msg.brick msg.no q))
      by None e h = all
      by (Some x) e (inl h) = absurd (some_none x (sym e ∙ h))
      by (Some x) e (inr h) =
          let same = some_is x msg.call (sym e ∙ h) in
          subst (λ (y : ℕ). AllInTime g late (with_own b y (Sends msg.brick msg.no q))) (sym same)
          (own_more msg.call (Sends msg.brick msg.no q) (λ given is k. sends_timed g late (account given (b.own msg.call)) msg.brick msg.no q (now q given refl h is) k))

  heard_one : (o : Option Message) → AllInTime g late (hears_books m b o)
  heard_one None = all
  heard_one (Some msg) = by_body msg.body
    where
      by_body : (z : Body) → AllInTime g late (hears_body m b msg z)
      by_body (ToBrick q) = all
      by_body (ToClient re reply) = by (is_number re (m.awaits msg.call msg.brick) && not (m.answered msg.call))
        where
          by : (t : Bool) → AllInTime g late (cond t (with_own b msg.call (Hears msg.brick re reply)) b)
          by true = own_more msg.call (Hears msg.brick re reply) (λ given is k. hears_timed g late (account given (b.own msg.call)) msg.brick re reply k)
          by false = all

  new_call : (x client : ℕ) (op : Op) (t : Story) → x ≡ m.calls + 1 → (a : ℕ) (given : Given) → put b.given x (Some (given_to geometry t b client op)) a ≡ Some given → InTime g late (account given (b.own a))
  new_call x client op t e a given is = ⊎_elim (λ z. fresh z.0 (some_is (given_to geometry t b client op) given z.1)) (λ z. all a given z.1) (put_some b.given x (Some (given_to geometry t b client op)) a given is)
    where
      fresh : a ≡ x → given_to geometry t b client op ≡ given → InTime g late (account given (b.own a))
      fresh z same = subst (λ (es : List Own). InTime g late (account given es)) (sym (numbers.unsaid a (omega (arith, z, e)))) (opens_timed g late given (ap (λ (y : Given). y.kept) (sym same) ∙ ap (λ (o : Option Kept). taken_over o op) (numbers.kept client)))

  -- an entry, where a read that is sent is noted as late if it is
  pub in_time_entry : (left : ℕ → Leaving) (t : Story) (e : Entry) → MayEnter geometry.n m e → ((msg : Message) (q : Request) (given : Given) → e ≡ Sent msg → msg.body ≡ ToBrick q → sender m b msg q ≡ Some msg.call → b.given msg.call ≡ Some given → is_chunk_read g q ≡ true → did is_plain_pre (((account given (b.own msg.call)).on g).place msg.brick).window ≡ true → late msg.no ≡ true) → AllInTime g late (booked geometry left m t b e)
  in_time_entry left t (Called a client op) may now = new_call a client op t may.0
  in_time_entry left t (Sent msg) may now = sent_by msg.body msg (λ q given body. now msg q given refl body)
  in_time_entry left t (Heard i) may now = heard_one (m.said i)
  in_time_entry left t (GivenUp client brick i) may now = own_more (call_of (m.said i)) (GivesUp brick i) (λ given is k. gives_up_timed g late (account given (b.own (call_of (m.said i)))) brick i k)
  in_time_entry left t (Answered a answer) may now = own_more a (Answers answer) (λ given is k. k)
  in_time_entry left t e may now = all
