-- A step of one entry in which no brick does anything.
use Rattle.std.proofs.Common.{◌≡◌, ℕ, ◌<◌, true, false, not, Option, Some, None, List, [], ◌∷◌, ◌++◌, length, refl, sym, ◌∙◌, ap, subst}
use Rattle.std.specs.Prelude.{is_some, Result, Ok, Err, OnOk}
use Rattle.ec_brick.specs.Fit.{IsFit}
use Rattle.ec_brick.specs.declared.brick.Brick.{Brick}
use Rattle.ec_history.specs.IsRun.{AreChunks, MayHear}
use Rattle.ec_history.specs.Run.{Net, Owed, after, heard, heard_by}
use Rattle.ec_store.specs.Put.{put}
use Rattle.ec_store.specs.Records.{Records}
use Rattle.ec_wire.specs.Flight.{in_flight, next_number}
use Rattle.ec_wire.specs.Lanes.{is_to_brick, with_message}
use Rattle.ec_wire.specs.declared.entry.Entry.{Entry}
use Rattle.ec_wire.specs.declared.entry.Entry.TheVariants.{Called, Sent, Heard, Lost, GivenUp, Died, Yielded, Answered}
use Rattle.ec_wire.specs.declared.message.Body.{Body}
use Rattle.ec_wire.specs.declared.message.Body.TheVariants.{ToBrick, ToClient}
use Rattle.ec_wire.specs.declared.message.Message.{Message}
use Rattle.ec_wire.specs.declared.reply.Reply.{Reply}
use Rattle.ec_wire.specs.declared.request.Request.{Request}
use Rattle.ec_wire.specs.declared.wire.Wire.{Wire}
use Rattle.ec_cluster.proofs.Matching.{matches_ask, matches_noted, matches_taken, may_ask}
use Rattle.ec_cluster.proofs.Saying.{said_more}
use Rattle.ec_cluster.proofs.Soundness.{sound_quiet, sound_sent, sound_taken}
use Rattle.ec_cluster.specs.Matches.{MatchesOf}
use Rattle.ec_cluster.specs.Said.{said_in, said_with}
use Rattle.ec_cluster.specs.Sound.{IsFitBody, IsSound, IsSoundOf}
use Rattle.ec_cluster.specs.Steps.{Advances, Always, IsAllowed, IsOfClient, Lives, Sends}
use Rattle.ec_cluster.specs.Views.{bricks_of, can_hear, flight, goes_to_client, is_of_clients, log_of, next_of, places_of, size_of}
use Rattle.ec_cluster.specs.declared.cluster.Cluster.{Cluster}

pub on_ok : {A E : Type 0} (r : Result A E) (P Q : Type 0) → (P → Q) → OnOk r P → OnOk r Q
on_ok (Ok x) P Q f h = f h
on_ok (Err e) P Q f h = h

-- the same parts under equal names
pub sound_as : (all more : List Brick) (f g : ℕ → Option Message) (i j : ℕ) (log told : List Entry) (places others : List ℕ) → more ≡ all → g ≡ f → j ≡ i → told ≡ log → others ≡ places → IsSoundOf all f i log places → IsSoundOf more g j told others
sound_as all more f g i j log told places others a b c d e h = subst (λ x. IsSoundOf x g j told others) (sym a) (subst (λ x. IsSoundOf all x j told others) (sym b) (subst (λ x. IsSoundOf all f x told others) (sym c) (subst (λ x. IsSoundOf all f i x others) (sym d) (subst (λ x. IsSoundOf all f i log x) (sym e) h))))

pub matches_as : (all more : List Brick) (f g : ℕ → Option Message) (i j : ℕ) (log told : List Entry) (records : List Records) (owed : List Owed) (m : Net) → more ≡ all → g ≡ f → j ≡ i → told ≡ log → MatchesOf all f i log records owed m → MatchesOf more g j told records owed m
matches_as all more f g i j log told records owed m a b c d h = subst (λ x. MatchesOf x g j told records owed m) (sym a) (subst (λ x. MatchesOf all x j told records owed m) (sym b) (subst (λ x. MatchesOf all f x told records owed m) (sym c) (subst (λ x. MatchesOf all f i x records owed m) (sym d) h)))

quiet_note : (said : ℕ → Option Message) (e : Entry) → is_of_clients e ≡ true → said_with said e ≡ said
quiet_note said (Sent msg) h = absurd cc
quiet_note said e h = refl

-- what an entry of calls and clients leaves
record IsAside (m t : Net) : Type 0 where
  next : t.next ≡ m.next
  said : t.said ≡ m.said
  flying : t.flying ≡ m.flying
  brick : t.brick ≡ m.brick
  owed : t.owed ≡ m.owed

aside : (m : Net) (e : Entry) → is_of_clients e ≡ true → IsAside m (after m e)
aside m (Called call client op) h = record { next = refl; said = refl; flying = refl; brick = refl; owed = refl }
aside m (GivenUp client brick number) h = record { next = refl; said = refl; flying = refl; brick = refl; owed = refl }
aside m (Died client) h = record { next = refl; said = refl; flying = refl; brick = refl; owed = refl }
aside m (Yielded client) h = record { next = refl; said = refl; flying = refl; brick = refl; owed = refl }
aside m (Answered call answer) h = record { next = refl; said = refl; flying = refl; brick = refl; owed = refl }
aside m e h = absurd cc

pub noted : (s : Cluster) (log : List Entry) (e : Entry) → IsSound s → is_of_clients e ≡ true → log ≡ s.log ++ e ∷ [] → Advances (IsAllowed (size_of s) e) s (record s { log = log }) (e ∷ [])
noted s log e h kind is =
    let q : said_in (s.log ++ e ∷ []) ≡ said_in s.log = said_more s.log e ∙ quiet_note (said_in s.log) e kind in record {
      log = is;
      size = refl;
      sound = subst (λ x. IsSoundOf (bricks_of s) (flight s) (next_of s) x (places_of s)) (sym is) (sound_quiet (bricks_of s) (flight s) (next_of s) s.log (places_of s) e h q);
      runs = λ records m k may. let a = aside m e kind in (
        (may, tt),
        subst (λ x. MatchesOf (bricks_of s) (flight s) (next_of s) x records [] (after m e)) (sym is) (matches_noted (bricks_of s) (flight s) (next_of s) s.log records m (after m e) e k q a.next a.said a.flying a.brick a.owed),
      );
    }

pub sends_request : (s t : Cluster) (x : Message) (q : Request) → IsSound s → x.body ≡ ToBrick q → x.brick < size_of s → IsFit q → AreChunks q → Sends s t x → Advances (IsOfClient x.call x.client) s t (Sent x ∷ [])
sends_request s t x q h body to fit chunks k = record {
  log = k.log;
  size = ap (λ (l : List Brick). length l) k.bricks;
  sound = sound_as _ _ _ _ _ _ _ _ _ _ k.bricks k.flies k.next k.log k.places (sound_sent (bricks_of s) (flight s) (next_of s) (log_of s) (places_of s) x h k.limit k.no to (subst (IsFitBody (said_in (log_of s)) x) (sym body) fit));
  runs = λ records m j given. (
    (may_ask (bricks_of s) (flight s) (next_of s) (log_of s) records (size_of s) m x q j k.no body to chunks given, tt),
    matches_as _ _ _ _ _ _ _ _ records [] (after m (Sent x)) k.bricks k.flies k.next k.log (matches_ask (bricks_of s) (flight s) (next_of s) (log_of s) records m x q j k.no body),
  );
}

module _ (s : Cluster) (wire : Wire) (log : List Entry) (num : ℕ) (sound : IsSound s) (gone : in_flight wire ≡ with_message (flight s) num None) (number : next_number wire ≡ next_of s) where
  taken_sound : (e : Entry) → said_in (s.log ++ e ∷ []) ≡ said_in s.log → log ≡ s.log ++ e ∷ [] → IsSoundOf (bricks_of s) (in_flight wire) (next_number wire) log (places_of s)
  taken_sound e q is = sound_as _ _ _ _ _ _ _ _ _ _ refl gone number is refl (sound_quiet (bricks_of s) (with_message (flight s) num None) (next_of s) s.log (places_of s) e (sound_taken (bricks_of s) (flight s) (next_of s) s.log (places_of s) num sound) q)

  pub lost : is_some (flight s num) ≡ true → log ≡ s.log ++ Lost num ∷ [] → Advances Always s (record s { wire = wire; log = log }) (Lost num ∷ [])
  lost there is = record {
    log = is;
    size = refl;
    sound = taken_sound (Lost num) (said_more s.log (Lost num)) is;
    runs = λ records m k given. (
      ((k.flies num ∙ there, k.owes), tt),
      matches_as _ _ _ _ _ _ _ _ records [] (after m (Lost num)) refl gone number is (matches_taken (bricks_of s) (flight s) (next_of s) s.log records m (after m (Lost num)) num (Lost num) k (said_more s.log (Lost num)) refl refl refl refl refl),
    );
  }

  heard_one : (x : Message) (re : ℕ) (reply : Reply) → flight s num ≡ Some x → x.body ≡ ToClient re reply → log ≡ s.log ++ Heard num ∷ [] → Advances (Lives x.client) s (record s { wire = wire; log = log }) (Heard num ∷ [])
  heard_one x re reply there body is = record {
    log = is;
    size = refl;
    sound = taken_sound (Heard num) (said_more s.log (Heard num)) is;
    runs = λ records m k given.
        let f = sound.flies num x there in
        let p : m.said num ≡ Some x = (λ i. k.said i num) ∙ f.sent in
        let t : Net = heard_by m x (ToClient re reply) in
        let same : t ≡ after m (Heard num) = (λ i. heard_by m x (sym body i)) ∙ (λ i. heard m (sym p i)) in
        let may : MayHear m num = record { message = x; re = re; reply = reply; said = p; body = body; flying = k.flies num ∙ ap is_some there; lives = given; nothing_owed = k.owes } in (
          (may, tt),
          subst (λ (u : Net). MatchesOf (bricks_of s) (in_flight wire) (next_number wire) log records [] u) same (matches_as _ _ _ _ _ _ _ _ records [] t refl gone number is (matches_taken (bricks_of s) (flight s) (next_of s) s.log records m t num (Heard num) k (said_more s.log (Heard num)) refl refl (ap (λ i. put m.flying i false) f.own) refl refl)),
        );
  }

  pub heard_reply : (x : Message) → flight s num ≡ Some x → can_hear s num ≡ true → log ≡ s.log ++ Heard num ∷ [] → Advances (Lives x.client) s (record s { wire = wire; log = log }) (Heard num ∷ [])
  heard_reply x there can is = go x.body refl
    where
      go : (body : Body) → x.body ≡ body → Advances (Lives x.client) s (record s { wire = wire; log = log }) (Heard num ∷ [])
      go (ToBrick q) e = absurd (let c : not (is_to_brick x.body) ≡ true = sym (ap goes_to_client there) ∙ can in let d : not (is_to_brick (ToBrick q)) ≡ true = ap (λ b. not (is_to_brick b)) (sym e) ∙ c in cc)
      go (ToClient re reply) e = heard_one x re reply there e is
