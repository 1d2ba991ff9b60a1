-- What an entry makes of the story of a gfid: nothing of its PostOps and its version, or a PostOp on an unmarked record.
use Rattle.std.proofs.Common.{◌≡◌, ℕ, ◌+◌, Bool, true, false, cond, Option, Some, None, refl, sym, ◌∙◌, ap, subst}
use Rattle.ec_attr.specs.declared.attr.Attr.{Attr}
use Rattle.ec_attr.specs.declared.geometry.Geometry.{Geometry}
use Rattle.ec_attr.specs.declared.gfid.Gfid.{Gfid}
use Rattle.ec_store.specs.Records.{head_at}
use Rattle.ec_wire.specs.declared.entry.Entry.{Entry}
use Rattle.ec_wire.specs.declared.entry.Entry.TheVariants.{Called, Sent, Executed, Torn}
use Rattle.ec_wire.specs.declared.message.Body.{Body}
use Rattle.ec_wire.specs.declared.message.Message.{Message}
use Rattle.ec_wire.specs.declared.op.Op.{Op}
use Rattle.ec_wire.specs.declared.request.Request.{Request}
use Rattle.ec_wire.specs.declared.request.Request.TheVariants.{WriteChunks, PostOp}
use Rattle.ec_history.specs.Flat.{Tree}
use Rattle.ec_history.specs.IsRun.{May as MayEnter, MayExecute}
use Rattle.ec_history.specs.Run.{Net, out_of}
use Rattle.ec_history.specs.Story.{Story, began, done_by, executes, found_by, is_done, is_unmarked, makes_a_child, outcome, post_done, request_of, said_by, tears, told, told_executed, told_torn, torn_by}
use Rattle.ec_law_data.specs.Deeds.{is_post_on}
use Rattle.ec_law_data.proofs.Stories.{SameStory, done_same, failed_same, opens_same, said_same, same_if, same_story}
use Rattle.ec_law_turns.proofs.Basics.{equal}

-- by this entry a brick does a PostOp on an unmarked record of the gfid
pub record IsPost (geometry : Geometry) (g : ℕ) (m : Net) (t : Story) (e : Entry) : Type 0 where
  pub number : ℕ
  pub read : Option ℕ
  pub may : MayExecute m number read false
  pub gfid : Gfid
  pub grant : ℕ
  pub old : ℕ
  pub new : ℕ
  pub size : ℕ
  pub attr : Option Attr
  pub entry : e ≡ Executed number read false
  pub asks : may.request ≡ PostOp gfid grant old new size attr
  pub on : gfid.0 ≡ g
  pub done : is_done (out_of m may.message (PostOp gfid grant old new size attr) read false).says ≡ true
  pub unmarked : is_unmarked (head_at (m.brick may.message.brick).records g) ≡ true
  pub is : told geometry m t e ≡ post_done geometry m t may.message.call g may.message.brick new

pub data StoryChange (geometry : Geometry) (g : ℕ) (m : Net) (t : Story) (e : Entry) : Type 0 where
  Unmoved : SameStory g t (told geometry m t e) → StoryChange geometry g m t e
  Posts : IsPost geometry g m t e → StoryChange geometry g m t e

module _ (geometry : Geometry) (g : ℕ) (m : Net) (t : Story) where
  cut_same : (msg : Message) (q : Request) (version : Option ℕ) → SameStory g t (torn_by m t msg q version)
  cut_same msg (WriteChunks x n first chunks) (Some version) = same_if g t _ t _ (opens_same g m t msg x.0 _) (same_story g t)
  cut_same msg (WriteChunks x n first chunks) None = same_story g t
  cut_same msg q version = same_story g t

  torn_story : (o : Option Message) (version : Option ℕ) → SameStory g t (told_torn m t o version)
  torn_story None version = same_story g t
  torn_story (Some msg) version = by (request_of msg.body)
    where
      by : (o : Option Request) → SameStory g t (tears m t msg o version)
      by None = same_story g t
      by (Some q) = cut_same msg q version

  began_same : (a : ℕ) (op : Op) → SameStory g t (began t a op)
  began_same a op = at (makes_a_child op)
    where
      at : (c : Bool) → SameStory g t (cond c (record (found_by t a (λ f. record f { took = t.next_gfid })) { next_gfid = t.next_gfid + 1 }) t)
      at true = record { posted = λ y z. refl; version = refl }
      at false = same_story g t

  sent_same : (a : ℕ) (z : Body) → SameStory g t (said_by t a z)
  sent_same a z = let h = said_same t a z in record { posted = λ x y. ap (λ (f : ℕ → ℕ → ℕ → Bool). f x g y) h.0; version = ap (λ (f : Tree). (f g).version) h.1 }

  executed_story : (i : ℕ) (version : Option ℕ) (failed : Bool) → MayExecute m i version failed → StoryChange geometry g m t (Executed i version failed)
  executed_story i version failed may = by failed may
    where
      is : (failed : Bool) (may : MayExecute m i version failed) → told geometry m t (Executed i version failed) ≡ outcome geometry m t may.message may.request version failed
      is failed may = ap (λ (o : Option Message). told_executed geometry m t o version failed) may.at.said ∙ ap (λ (z : Body). executes geometry m t may.message (request_of z) version failed) may.at.body

      same : (failed : Bool) (may : MayExecute m i version failed) → SameStory g t (outcome geometry m t may.message may.request version failed) → StoryChange geometry g m t (Executed i version failed)
      same failed may h = Unmoved (subst (SameStory g t) (sym (is failed may)) h)

      posts : (may : MayExecute m i version false) (q : Request) → may.request ≡ q → is_post_on g q ≡ true → is_done (out_of m may.message may.request version false).says ≡ true → StoryChange geometry g m t (Executed i version false)
      posts may (PostOp x n at new size attr) e on done = marked (is_unmarked (head_at (m.brick may.message.brick).records g)) refl
        where
          here : x.0 ≡ g
          here = equal x.0 g on

          done_is : is_done (out_of m may.message (PostOp x n at new size attr) version false).says ≡ true
          done_is = subst (λ (q : Request). is_done (out_of m may.message q version false).says ≡ true) e done

          told_is : outcome geometry m t may.message may.request version false ≡ post_done geometry m t may.message.call g may.message.brick new
          told_is = ap (λ (q : Request). cond (is_done (out_of m may.message q version false).says) (done_by geometry m t may.message q) t) e
              ∙ (ap (λ (c : Bool). cond c (post_done geometry m t may.message.call x.0 may.message.brick new) t) done_is
              ∙ ap (λ (y : ℕ). post_done geometry m t may.message.call y may.message.brick new) here)

          marked : (c : Bool) → is_unmarked (head_at (m.brick may.message.brick).records g) ≡ c → StoryChange geometry g m t (Executed i version false)
          marked false u = same false may (subst (SameStory g t) (sym (told_is ∙ untouched (is_unmarked (head_at (m.brick may.message.brick).records g)) u _)) (same_story g t))
            where
              untouched : (c : Bool) → c ≡ false → (w : Story) → cond c w t ≡ t
              untouched true u w = absurd (cc)
              untouched false u w = refl
          marked true u = Posts (record {
            number = i;
            read = version;
            may = may;
            gfid = x;
            grant = n;
            old = at;
            new = new;
            size = size;
            attr = attr;
            entry = refl;
            asks = e;
            on = here;
            done = done_is;
            unmarked = u;
            is = is false may ∙ told_is;
          })
      posts may q e on done = absurd (cc)

      by : (failed : Bool) (may : MayExecute m i version failed) → StoryChange geometry g m t (Executed i version failed)
      by true may = same true may (failed_same g m t may.message may.request version)
      by false may = answered (is_done (out_of m may.message may.request version false).says) refl
        where
          to_be : (d : Bool) → is_done (out_of m may.message may.request version false).says ≡ d → SameStory g t (cond d (done_by geometry m t may.message may.request) t) → StoryChange geometry g m t (Executed i version false)
          to_be d p h = same false may (subst (λ (c : Bool). SameStory g t (cond c (done_by geometry m t may.message may.request) t)) (sym p) h)

          answered : (d : Bool) → is_done (out_of m may.message may.request version false).says ≡ d → StoryChange geometry g m t (Executed i version false)
          answered false p = to_be false p (same_story g t)
          answered true p = post (is_post_on g may.request) refl
            where
              post : (c : Bool) → is_post_on g may.request ≡ c → StoryChange geometry g m t (Executed i version false)
              post true c = posts may may.request refl c p
              post false c = to_be true p (done_same geometry g m t may.message may.request c)

  pub story_change : (e : Entry) → MayEnter geometry.n m e → StoryChange geometry g m t e
  story_change (Called a client op) may = Unmoved (began_same a op)
  story_change (Sent msg) may = Unmoved (sent_same msg.call msg.body)
  story_change (Executed i version failed) may = executed_story i version failed may
  story_change (Torn i count version) may = Unmoved (torn_story (m.said i) version)
  story_change e may = Unmoved (same_story g t)
