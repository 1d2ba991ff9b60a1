-- What a call has heard of the changes in its window: each came after a PreOp that was done, and what a reply tells of it is so.
use Rattle.std.proofs.Common.{◌≡◌, ◌≢◌, ◌⊎◌, ℕ, ◌<◌, Bool, true, false, not, cond, ◌==◌, ◌&&◌, ◌||◌, Option, Some, None, List, [], ◌∷◌, refl, sym, ◌∙◌, ap, subst, inl, inr, ⊎_elim}
use Rattle.ec_attr.specs.declared.gfid.Gfid.{Gfid}
use Rattle.ec_attr.specs.declared.kind.Domain.TheVariants.{Inode, Heal}
use Rattle.ec_attr.specs.declared.kind.LockKind.{LockKind}
use Rattle.ec_store.specs.Put.{put}
use Rattle.ec_wire.specs.declared.message.Body.TheVariants.{ToBrick}
use Rattle.ec_wire.specs.declared.message.Message.{Message}
use Rattle.ec_wire.specs.declared.reply.Reply.{Reply}
use Rattle.ec_wire.specs.declared.request.Request.{Request}
use Rattle.ec_wire.specs.declared.request.Request.TheVariants.{Ask, PreOp, WriteChunks, SetLength, NameSet, Make}
use Rattle.ec_conduct.specs.Account.{Account, Dealings, Exchange, Place, Wait, asked, at as place_of, begun, gave_up, gfid_of, heard_by, left_by, noted, over, released, renewed, sent, told, with_place}
use Rattle.ec_conduct.specs.Conduct.{MaySend, is_release}
use Rattle.ec_conduct.specs.Copies.{MayCopy, MayTrim}
use Rattle.ec_conduct.specs.Data.{MayWrite}
use Rattle.ec_conduct.specs.Conduct.{MayCut}
use Rattle.ec_conduct.specs.Done.{did, failed_none, is_change, is_done, is_pre, since, tried}
use Rattle.ec_conduct.specs.Standing.{did_changes}
use Rattle.ec_law_turns.specs.Follows.{All, Follows, Has}
use Rattle.ec_law_turns.proofs.Basics.{all_map, differ, equal, put_here, put_some, put_there, some_is, some_none, wait_of}
use Rattle.ec_law_turns.proofs.SentSound.{holds_lock}
use Rattle.ec_law_turns.proofs.Sorts.{Sort, Locks, Unlocks, Looks, Raises, Works, Apart, over_apart as on_apart, over_here as on_here, over_waits, sort, waits_kept, waits_sent}
use Rattle.ec_law_writes.specs.Guarding.{changes_on}

-- ## Windows

-- after these a change may come, or a PreOp
abbrev pub MayFollow : Request → List Exchange → Type 0
MayFollow q es = (is_change q ≡ true → did is_pre es ≡ true) × (is_pre q ≡ true → tried is_pre es ≡ false)

abbrev pub InTurn : List Exchange → Type 0
InTurn [] = Unit {0}
InTurn (e ∷ es) = MayFollow e.request es × InTurn es

-- message i was sent, and a change that was replied Done was done
pub record IsTold (g : ℕ) (said : ℕ → Option Message) (done : ℕ → Bool) (i : ℕ) (reply : Reply) : Type 0 where
  pub message : Message
  pub is : said i ≡ Some message
  pub so : (q : Request) → message.body ≡ ToBrick q → changes_on g q ≡ true → is_done (Some reply) ≡ true → done i ≡ true

abbrev pub AreTold : ℕ → (ℕ → Option Message) → (ℕ → Bool) → List Exchange → Type 0
AreTold g said done es = All (λ e. (reply : Reply) → e.reply ≡ Some reply → IsTold g said done e.number reply) es

-- the windows of a call on the gfid
pub record Windowed (g : ℕ) (said : ℕ → Option Message) (done : ℕ → Bool) (waits : ℕ → Option Wait) (d : Dealings) : Type 0 where
  pub window : (b : ℕ) → InTurn (d.place b).window
  pub next : (b : ℕ) (w : Wait) → waits b ≡ Some w → gfid_of w.request ≡ Some g → MayFollow w.request (d.place b).window
  pub heard : (b : ℕ) → AreTold g said done (d.place b).window

abbrev pub HasWindowed : ℕ → (ℕ → Option Message) → (ℕ → Bool) → Account → Type 0
HasWindowed g said done c = Windowed g said done c.waits (c.on g)

pub told_later : (g : ℕ) (said said' : ℕ → Option Message) (done done' : ℕ → Bool) → ((i : ℕ) (x : Message) → said i ≡ Some x → said' i ≡ Some x) → ((i : ℕ) → done i ≡ true → done' i ≡ true) → (i : ℕ) (reply : Reply) → IsTold g said done i reply → IsTold g said' done' i reply
told_later g said said' done done' still more i reply h = record { message = h.message; is = still i h.message h.is; so = λ q body on so. more i (h.so q body on so) }

pub windowed_later : (g : ℕ) (said said' : ℕ → Option Message) (done done' : ℕ → Bool) → ((i : ℕ) (x : Message) → said i ≡ Some x → said' i ≡ Some x) → ((i : ℕ) → done i ≡ true → done' i ≡ true) → (waits : ℕ → Option Wait) (d : Dealings) → Windowed g said done waits d → Windowed g said' done' waits d
windowed_later g said said' done done' still more waits d h = record {
  window = h.window;
  next = h.next;
  heard = λ b. all_map (λ e. (reply : Reply) → e.reply ≡ Some reply → IsTold g said done e.number reply) (λ e. (reply : Reply) → e.reply ≡ Some reply → IsTold g said' done' e.number reply) (λ e o reply is. told_later g said said' done done' still more e.number reply (o reply is)) (d.place b).window (h.heard b);
}

by_parts : (g : ℕ) (said : ℕ → Option Message) (done : ℕ → Bool) (c : Account) (waits : ℕ → Option Wait) (d : Dealings) → c.waits ≡ waits → c.on g ≡ d → Windowed g said done waits d → HasWindowed g said done c
by_parts g said done c waits d w o h = subst (λ (y : ℕ → Option Wait). Windowed g said done y (c.on g)) (sym w) (subst (Windowed g said done waits) (sym o) h)

-- ## A request is over

module _ (g : ℕ) (said : ℕ → Option Message) (done : ℕ → Bool) (c : Account) (l : HasWindowed g said done c) where
  ends : (b : ℕ) (w : Wait) → c.waits b ≡ Some w → (e : Exchange) → e.request ≡ w.request → ((reply : Reply) → e.reply ≡ Some reply → IsTold g said done e.number reply) → HasWindowed g said done (over c b e)
  ends b w is e request tells = at (gfid_of e.request) refl
    where
      still : (x : ℕ) (y : Wait) → put c.waits b None x ≡ Some y → (x ≢ b) × (c.waits x ≡ Some y)
      still x y h = ⊎_elim (λ k. absurd (some_none y (sym k.1))) (λ k. k) (put_some c.waits b None x y h)

      apart : gfid_of e.request ≢ Some g → HasWindowed g said done (over c b e)
      apart ne = by_parts g said done (over c b e) (put c.waits b None) (c.on g) (over_waits g c b e) (on_apart g c b e ne) (record { window = l.window; next = λ x y h on. l.next x y (still x y h).1 on; heard = l.heard })

      d' : Dealings
      d' = with_place (c.on g) b (noted ((c.on g).place b) e)

      here : gfid_of e.request ≡ Some g → HasWindowed g said done (over c b e)
      here on = by_parts g said done (over c b e) (put c.waits b None) d' (over_waits g c b e) (on_here g c b e on) (record {
        window = λ x. windows x (x == b) refl;
        next = λ x y h k. let o = still x y h in subst (λ (p : Place). MayFollow y.request p.window) (sym (put_there (c.on g).place b (noted ((c.on g).place b) e) x o.0)) (l.next x y o.1 k);
        heard = λ x. hears x (x == b) refl;
      })
        where
          mine : MayFollow e.request ((c.on g).place b).window
          mine = subst (λ (q : Request). MayFollow q ((c.on g).place b).window) (sym request) (l.next b w is (ap gfid_of (sym request) ∙ on))

          windows : (x : ℕ) (t : Bool) → (x == b) ≡ t → InTurn (d'.place x).window
          windows x true h = subst (λ (p : Place). InTurn p.window) (sym (put_here (c.on g).place b (noted ((c.on g).place b) e) x (sym (equal x b h)))) (mine, l.window b)
          windows x false h = subst (λ (p : Place). InTurn p.window) (sym (put_there (c.on g).place b (noted ((c.on g).place b) e) x (differ x b h))) (l.window x)

          hears : (x : ℕ) (t : Bool) → (x == b) ≡ t → AreTold g said done (d'.place x).window
          hears x true h = subst (λ (p : Place). AreTold g said done p.window) (sym (put_here (c.on g).place b (noted ((c.on g).place b) e) x (sym (equal x b h)))) (tells, l.heard b)
          hears x false h = subst (λ (p : Place). AreTold g said done p.window) (sym (put_there (c.on g).place b (noted ((c.on g).place b) e) x (differ x b h))) (l.heard x)

      at : (o : Option ℕ) → gfid_of e.request ≡ o → HasWindowed g said done (over c b e)
      at None h = apart (λ z. let y = sym h ∙ z in cc)
      at (Some x) h = either (x == g) refl
        where
          either : (t : Bool) → (x == g) ≡ t → HasWindowed g said done (over c b e)
          either true k = here (h ∙ ap (λ (y : ℕ). Some y) (equal x g k))
          either false k = apart (λ z. differ x g k (some_is x g (sym h ∙ z)))

  pub hears_windowed : (b i : ℕ) (reply : Reply) → IsTold g said done i reply → HasWindowed g said done (heard_by c b (c.waits b) i reply)
  hears_windowed b i reply heard = at (c.waits b) refl
    where
      at : (o : Option Wait) → c.waits b ≡ o → HasWindowed g said done (heard_by c b o i reply)
      at None e = l
      at (Some w) e = either (w.number == i) refl
        where
          either : (t : Bool) → (w.number == i) ≡ t → HasWindowed g said done (cond t (told c b w reply) c)
          either true h = ends b w e (record { number = w.number; request = w.request; reply = Some reply }) refl (λ y same. subst (λ (j : ℕ). IsTold g said done j y) (sym (equal w.number i h)) (subst (λ (z : Reply). IsTold g said done i z) (some_is reply y same) heard))
          either false h = l

  pub gives_up_windowed : (b i : ℕ) → HasWindowed g said done (left_by c b (c.waits b) i)
  gives_up_windowed b i = at (c.waits b) refl
    where
      at : (o : Option Wait) → c.waits b ≡ o → HasWindowed g said done (left_by c b o i)
      at None e = l
      at (Some w) e = either (w.number == i)
        where
          either : (t : Bool) → HasWindowed g said done (cond t (gave_up c b w) c)
          either true = ends b w e (record { number = w.number; request = w.request; reply = None }) refl (λ y same. absurd (some_none y (sym same)))
          either false = l

-- ## A request is sent

and_first : (t u : Bool) → (t && u) ≡ true → t ≡ true
and_first true u e = refl
and_first false u e = absurd (cc)

-- a change goes where the PreOp was done and every change since, a PreOp where none was
pub ready : (c : Account) (b g : ℕ) (q : Request) → ((x : ℕ) → (place_of c g x).heal ≡ None) → is_change q ≡ true → gfid_of q ≡ Some g → MaySend c b q → did_changes (place_of c g b) ≡ true
ready c b g (WriteChunks x n first chunks) unhealed change on may = subst (λ (y : ℕ). did_changes (place_of c y b) ≡ true) (some_is x.0 g on) (by may.1)
  where
    by : MayWrite c b x.0 n first chunks ⊎ MayCopy c b x.0 n first chunks → did_changes (place_of c x.0 b) ≡ true
    by (inl o) = o.change.ready
    by (inr o) = absurd (let l = holds_lock (place_of c x.0 b).heal n o.rebuild.heal_held in some_none l.0 (sym l.1 ∙ (ap (λ (y : ℕ). (place_of c y b).heal) (some_is x.0 g on) ∙ unhealed b)))
ready c b g (SetLength x n keep count) unhealed change on may = subst (λ (y : ℕ). did_changes (place_of c y b) ≡ true) (some_is x.0 g on) (by may.1)
  where
    by : MayCut c b x.0 n ⊎ MayTrim c b x.0 n keep count → did_changes (place_of c x.0 b) ≡ true
    by (inl o) = o.change.ready
    by (inr o) = absurd (let l = holds_lock (place_of c x.0 b).heal n o.rebuild.heal_held in some_none l.0 (sym l.1 ∙ (ap (λ (y : ℕ). (place_of c y b).heal) (some_is x.0 g on) ∙ unhealed b)))
ready c b g (NameSet x n name child) unhealed change on may = subst (λ (y : ℕ). did_changes (place_of c y b) ≡ true) (some_is x.0 g on) may.1.change.ready
ready c b g (Make x n child) unhealed change on may = subst (λ (y : ℕ). did_changes (place_of c y b) ≡ true) (some_is x.0 g on) may.1.change.ready
ready c b g q unhealed change on may = absurd (cc)

first_pre : (c : Account) (b g : ℕ) (q : Request) → is_pre q ≡ true → gfid_of q ≡ Some g → MaySend c b q → tried is_pre (place_of c g b).window ≡ false
first_pre c b g (PreOp x n at dirty) pre on may = subst (λ (y : ℕ). tried is_pre (place_of c y b).window ≡ false) (some_is x.0 g on) may.1.once
first_pre c b g q pre on may = absurd (cc)

module _ (g : ℕ) (said : ℕ → Option Message) (turn : ℕ → Option ℕ) (of : ℕ → ℕ) (moment : ℕ → Bool) (done : ℕ → Bool) (a : ℕ) (c : Account) (f : Follows g said turn of moment a c) (bricks : (b i : ℕ) (q : Request) (x : Message) → said i ≡ Some x → x.body ≡ ToBrick q → x.brick < c.given.geometry.n) (l : HasWindowed g said done c) (b i : ℕ) (q : Request) (may : MaySend c b q) (no_heal : (x : Gfid) (kind : LockKind) → q ≡ Ask x Heal kind → x.0 ≢ g) where
  mine : gfid_of q ≡ Some g → MayFollow q ((c.on g).place b).window
  mine on = (λ h. and_first (did is_pre (place_of c g b).window) (failed_none is_change (since is_pre (place_of c g b).window)) (ready c b g q f.unhealed h on may), λ h. first_pre c b g q h on may)

  -- windows stay as they were
  same_windows : (d : Dealings) → ((x : ℕ) → (d.place x).window ≡ ((c.on g).place x).window) → (waits : ℕ → Option Wait) → ((x : ℕ) (w : Wait) → waits x ≡ Some w → gfid_of w.request ≡ Some g → MayFollow w.request ((c.on g).place x).window) → Windowed g said done waits d
  same_windows d same waits next = record {
    window = λ x. subst InTurn (sym (same x)) (l.window x);
    next = λ x w h on. subst (MayFollow w.request) (sym (same x)) (next x w h on);
    heard = λ x. subst (AreTold g said done) (sym (same x)) (l.heard x);
  }

  next_then : (x : ℕ) (w : Wait) → put c.waits b (Some (wait_of i q)) x ≡ Some w → gfid_of w.request ≡ Some g → MayFollow w.request ((c.on g).place x).window
  next_then x w h on = ⊎_elim
      (λ z. let same = some_is (wait_of i q) w z.1 in subst (λ (y : ℕ). MayFollow w.request ((c.on g).place y).window) (sym z.0) (subst (λ (y : Wait). MayFollow y.request ((c.on g).place b).window) same (mine (ap (λ (y : Wait). gfid_of y.request) same ∙ on))))
      (λ z. l.next x w z.1 on)
      (put_some c.waits b (Some (wait_of i q)) x w h)

  -- new windows begin where nothing on the gfid is waited for
  renews : (x : Gfid) (kind : LockKind) → q ≡ Ask x Inode kind → x.0 ≡ g → (o : Option ℕ) → (c.on g).queried ≡ o → Windowed g said done (put c.waits b (Some (wait_of i q))) (with_place (begun (c.on g) o) b (record ((begun (c.on g) o).place b) { inode = Some (record { number = i; granted = false }) }))
  renews x kind is on None e = same_windows (with_place (c.on g) b (record ((c.on g).place b) { inode = Some (record { number = i; granted = false }) })) (λ y. at y (y == b) refl) (put c.waits b (Some (wait_of i q))) next_then
    where
      at : (y : ℕ) (t : Bool) → (y == b) ≡ t → (cond t (record ((c.on g).place b) { inode = Some (record { number = i; granted = false }) }) ((c.on g).place y)).window ≡ ((c.on g).place y).window
      at y true e = ap (λ (z : ℕ). ((c.on g).place z).window) (sym (equal y b e))
      at y false e = refl
  renews x kind is on (Some step) e = record {
    window = λ y. subst InTurn (sym (none y (y == b))) tt;
    next = λ y w h k. ⊎_elim (λ z. asks y w (some_is (wait_of i q) w z.1)) (λ z. absurd (unlocked y w z.1 k)) (put_some c.waits b (Some (wait_of i q)) y w h);
    heard = λ y. subst (AreTold g said done) (sym (none y (y == b))) tt;
  }
    where
      d' : Dealings
      d' = with_place (renewed (c.on g)) b (record ((renewed (c.on g)).place b) { inode = Some (record { number = i; granted = false }) })

      none : (y : ℕ) (t : Bool) → (cond t (record ((renewed (c.on g)).place b) { inode = Some (record { number = i; granted = false }) }) ((renewed (c.on g)).place y)).window ≡ []
      none y true = refl
      none y false = refl

      asks : (y : ℕ) (w : Wait) → wait_of i q ≡ w → MayFollow w.request (d'.place y).window
      asks y w same = subst (λ (z : Wait). MayFollow z.request (d'.place y).window) same (subst (λ (r : Request). MayFollow r (d'.place y).window) (sym is) (λ h. absurd (cc), λ h. absurd (cc)))

      unlocked : (y : ℕ) (w : Wait) → c.waits y ≡ Some w → gfid_of w.request ≡ Some g → ⊥
      unlocked y w h k =
          let s = f.waiting y w h in
          let o = f.waits_in y w h k in
          let may' = (subst (MaySend c b) is may).1 in
          ⊎_elim
          (λ z. some_none step (sym e ∙ (ap (λ (u : ℕ). (c.on u).queried) (sym on) ∙ z)))
          (λ z. o.1 (subst (λ (u : ℕ). (place_of c u y).inode ≡ None) on (z.0 y (subst (λ (u : ℕ). u < c.given.geometry.n) s.brick (bricks y w.number w.request s.message s.is s.body)))))
          may'.window

  pub sends_windowed : HasWindowed g said done (sent c b i q)
  sends_windowed = by_sort (sort g c b i q no_heal)
    where
      goes : (d : Dealings) → (sent c b i q).on g ≡ d → ((x : ℕ) → (d.place x).window ≡ ((c.on g).place x).window) → HasWindowed g said done (sent c b i q)
      goes d on same = at (is_release q) refl
        where
          at : (t : Bool) → is_release q ≡ t → HasWindowed g said done (sent c b i q)
          at true r = by_parts g said done (sent c b i q) c.waits d (waits_kept g c b i q r) on (same_windows d same c.waits l.next)
          at false r = by_parts g said done (sent c b i q) (put c.waits b (Some (wait_of i q))) d (waits_sent g c b i q r) on (same_windows d same (put c.waits b (Some (wait_of i q))) next_then)

      unlocks : (n : ℕ) (x : ℕ) (t : Bool) → (x == b) ≡ t → (cond t (released ((c.on g).place b) n) ((c.on g).place x)).window ≡ ((c.on g).place x).window
      unlocks n x true e = ap (λ (z : ℕ). ((c.on g).place z).window) (sym (equal x b e))
      unlocks n x false e = refl

      by_sort : Sort g c b i q → HasWindowed g said done (sent c b i q)
      by_sort (Locks x kind is on d) = by_parts g said done (sent c b i q) (put c.waits b (Some (wait_of i q))) (asked (c.on g) b i Inode) (waits_sent g c b i q (ap is_release is)) d (renews x kind is on (c.on g).queried refl)
      by_sort (Unlocks x n is on d) = goes (with_place (c.on g) b (released ((c.on g).place b) n)) d (λ y. unlocks n y (y == b) refl)
      by_sort (Looks x n is on d) = goes (record (c.on g) { queried = Some c.steps }) d (λ y. refl)
      by_sort (Raises x n version dirty is on d) = goes (record (c.on g) { dirty = Some dirty }) d (λ y. refl)
      by_sort (Works on guarded unlooked rel other moments d) = goes (c.on g) d (λ y. refl)
      by_sort (Apart on other moments d) = goes (c.on g) d (λ y. refl)

-- ## What a window says of its changes

or_true : (t u : Bool) → (t || u) ≡ true → (t ≡ true) ⊎ (u ≡ true)
or_true true u e = inl refl
or_true false u e = inr e

did_tried : (es : List Exchange) → did is_pre es ≡ true → tried is_pre es ≡ true
did_tried [] h = absurd (cc)
did_tried (e ∷ es) h = at (is_pre e.request) (is_done e.reply) (did is_pre es) h (did_tried es)
  where
    at : (t u w : Bool) → ((t && u) || w) ≡ true → (w ≡ true → tried is_pre es ≡ true) → (t || tried is_pre es) ≡ true
    at true u w h k = refl
    at false u w h k = k h

no_changes : (es : List Exchange) → InTurn es → tried is_pre es ≡ false → (i : ℕ) (q : Request) → is_change q ≡ true → Has i q es → ⊥
no_changes [] turn none i q change h = absurd h
no_changes (e ∷ es) turn none i q change (inl h) =
    let pre = did_tried es (turn.0.0 (ap is_change h.1 ∙ change)) in
    let z = sym (later (is_pre e.request) (tried is_pre es) pre) ∙ none in cc
  where
    later : (t u : Bool) → u ≡ true → (t || u) ≡ true
    later true u h = refl
    later false u h = h
no_changes (e ∷ es) turn none i q change (inr h) = no_changes es turn.1 (second (is_pre e.request) (tried is_pre es) none) i q change h
  where
    second : (t u : Bool) → (t || u) ≡ false → u ≡ false
    second true u e = absurd (cc)
    second false u e = e

not_both : (q : Request) → is_change q ≡ true → is_pre q ≡ true → ⊥
not_both (PreOp x n at dirty) c p = absurd (cc)
not_both q c p = absurd (cc)

-- an exchange of this number and request that was done
pub record WasDone (i : ℕ) (q : Request) (P : Exchange → Type 0) : Type 0 where
  pub e : Exchange
  pub number : e.number ≡ i
  pub request : e.request ≡ q
  pub done : is_done e.reply ≡ true
  pub so : P e

-- each change of a window was done, where each since the PreOp was
pub was_done : (P : Exchange → Type 0) (es : List Exchange) → InTurn es → All P es → failed_none is_change (since is_pre es) ≡ true → (i : ℕ) (q : Request) → is_change q ≡ true → Has i q es → WasDone i q P
was_done P [] turn all whole i q change h = absurd h
was_done P (e ∷ es) turn all whole i q change h = at (is_pre e.request) refl whole (λ k x. was_done P es turn.1 all.1 k i q change x)
  where
    after_pre : is_pre e.request ≡ true → (x : ((e.number ≡ i) × (e.request ≡ q)) ⊎ Has i q es) → WasDone i q P
    after_pre pre (inl x) = absurd (not_both e.request (ap is_change x.1 ∙ change) pre)
    after_pre pre (inr x) = absurd (no_changes es turn.1 (turn.0.1 pre) i q change x)

    here : (t u : Bool) → t ≡ true → ((not t || u) && failed_none is_change (since is_pre es)) ≡ true → u ≡ true
    here true true c h = refl
    here true false c h = absurd (cc)
    here false u c h = absurd (cc)

    rest : (t u : Bool) → ((not t || u) && failed_none is_change (since is_pre es)) ≡ true → failed_none is_change (since is_pre es) ≡ true
    rest true true h = h
    rest true false h = absurd (cc)
    rest false u h = h

    by : ((not (is_change e.request) || is_done e.reply) && failed_none is_change (since is_pre es)) ≡ true → (failed_none is_change (since is_pre es) ≡ true → Has i q es → WasDone i q P) → ((e.number ≡ i) × (e.request ≡ q)) ⊎ Has i q es → WasDone i q P
    by k later (inl x) = record { e = e; number = x.0; request = x.1; done = here (is_change e.request) (is_done e.reply) (ap is_change x.1 ∙ change) k; so = all.0 }
    by k later (inr x) = later (rest (is_change e.request) (is_done e.reply) k) x

    at : (t : Bool) → is_pre e.request ≡ t → failed_none is_change (cond t [] (e ∷ since is_pre es)) ≡ true → (failed_none is_change (since is_pre es) ≡ true → Has i q es → WasDone i q P) → WasDone i q P
    at true pre k later = after_pre pre h
    at false pre k later = by k later h
