-- What is known of a log at each moment of it: all that it has come to, and that its requests are fair.
use Rattle.std.proofs.Common.{◌≡◌, ⊎_elim, ℕ, ◌≤◌, true, Option, Some, None, List, [], ◌∷◌, ◌++◌, refl, sym, ◌∙◌, ap, subst}
use Rattle.ec_attr.specs.declared.geometry.Geometry.{Geometry}
use Rattle.ec_conduct.specs.Account.{Lock, at}
use Rattle.ec_conduct.specs.Given.{Given}
use Rattle.ec_conduct.specs.Opened.{account}
use Rattle.ec_conduct.specs.Own.{Own, Sends}
use Rattle.ec_conduct.specs.Standing.{holds}
use Rattle.ec_history.specs.Accounts.{Books, Leaving, booked, books}
use Rattle.ec_history.specs.IsRun.{IsRun, May as MayEnter, MaySay}
use Rattle.ec_history.specs.Run.{Net, after as net_after, run}
use Rattle.ec_history.specs.Story.{Story, story, told}
use Rattle.ec_wire.specs.declared.entry.Entry.{Entry}
use Rattle.ec_wire.specs.declared.entry.Entry.TheVariants.{Sent, Executed, Heard, Torn}
use Rattle.ec_wire.specs.declared.message.Body.{Body}
use Rattle.ec_wire.specs.declared.message.Body.TheVariants.{ToBrick}
use Rattle.ec_wire.specs.declared.message.Message.{Message}
use Rattle.ec_wire.specs.declared.request.Request.{Request}
use Rattle.ec_wire.specs.declared.request.Request.TheVariants.{NameSet, NamesPut}
use Rattle.ec_law_net.specs.Turns.{View, seen_after, view}
use Rattle.ec_law_net.proofs.Conducts.{log_grows, sent_own, together}
use Rattle.ec_law_turns.specs.Follows.{Numbers}
use Rattle.ec_law_turns.specs.Known.{Known}
use Rattle.ec_law_turns.specs.Orderly.{ArePlain}
use Rattle.ec_law_turns.proofs.Basics.{put_some, some_is}
use Rattle.ec_law_turns.proofs.Numbered.{numbered}
use Rattle.ec_law_turns.proofs.Runs.{Kept, given_stays, kept_there, plain_first}
use Rattle.ec_law_turns.proofs.SentKnown.{BodyKept}
use Rattle.ec_law_turns.proofs.Steps.{EntryKept, executed_same, heard_same, torn_same}
use Rattle.ec_law_data.specs.Link.{IsWhole}
use Rattle.ec_law_data.proofs.Reaching.{Reaches, reaches_then}
use Rattle.ec_law_plans.specs.Given.{BodyIs, EachRequest, EntryIs, MakesDirectory}
use Rattle.ec_law_plans.specs.Named.{SetOwnNames}
use Rattle.ec_law_parts.specs.Names.{EachSends, SetsItsName}
use Rattle.ec_law_plans.proofs.Entries.{NoPage}

-- What is known of a request of a log with these books at its end.
pub record IsFair (last : Books) (g : ℕ) (x : Message) (q : Request) : Type 0 where
  pub whole : IsWhole q
  pub made : MakesDirectory g q
  pub no_page : NoPage g q
  pub names : (given : Given) → last.given x.call ≡ Some given → SetsItsName given q

abbrev pub AllFair : Books → ℕ → Net → Type 0
AllFair last g m = (i : ℕ) (x : Message) (q : Request) → m.said i ≡ Some x → x.body ≡ ToBrick q → IsFair last g x q

each_there : (P : Request → Type 0) (xs : List Own) (b i : ℕ) (r : Request) (ys : List Own) → EachSends P (xs ++ Sends b i r ∷ ys) → P r
each_there P [] b i r ys h = h.0
each_there P (Sends c j q ∷ xs) b i r ys h = each_there P xs b i r ys h.1
each_there P (x ∷ xs) b i r ys h = each_there P xs b i r ys h

unheld : (lock : Option Lock) (n : ℕ) → lock ≡ None → holds lock n ≡ true → ⊥
unheld None n e h = absurd (cc)
unheld (Some lock) n e h = absurd (cc)

module _ (geometry : Geometry) (left : ℕ → Leaving) (none : (a : ℕ) → (left a).kept ≡ None) where
  -- what a call begins with it has at the end
  pub given_last : (es : List Entry) (m : Net) (t : Story) (b : Books) → IsRun geometry.n es m → ArePlain es → Numbers geometry m.said m.owed m.calls m.asker b → (a : ℕ) (given : Given) → b.given a ≡ Some given → (books geometry left es m t b).given a ≡ Some given
  given_last [] m t b runs plain k a given h = h
  given_last (e ∷ es) m t b runs plain k a given h =
      let p = plain_first e es plain in
      given_last es (net_after m e) (told geometry m t e) (booked geometry left m t b e) runs.1 p.1 (numbered geometry left geometry.n m t b e none p.0 runs.0 k) a given (given_stays geometry left none m t b e runs.0 k a given h)

  module _ (g : ℕ) where
    module _ (m : Net) (v : View) (t : Story) (b : Books) (known : Known geometry g m v b) (msg : Message) (es : List Entry) (may : MayEnter geometry.n m (Sent msg)) (kept : EntryKept m b (Sent msg)) (own : SetOwnNames (books geometry left (Sent msg ∷ es) m t b)) where
      no_page : (q : Request) → msg.body ≡ ToBrick q → NoPage g q
      no_page (NamesPut x n start upto list) body = λ on.
          let asker = subst (λ (z : Body). MaySay geometry.n m msg z) body may.1 in
          let made = known.numbers.made msg.call asker.asker asker.made in
          let c = account made.1 (b.own msg.call) in
          let allowed = subst (BodyKept m b msg) body kept made.1 made.2 refl in
          let follows = known.calls msg.call made.1 made.2 in
          unheld (at c x.0 msg.brick).heal n (ap (λ (y : ℕ). (at c y msg.brick).heal) on ∙ follows.unhealed msg.brick) allowed.0.1.rebuild.heal_held
      no_page q body = tt

      names : (q : Request) → msg.body ≡ ToBrick q → (given : Given) → (books geometry left (Sent msg ∷ es) m t b).given msg.call ≡ Some given → SetsItsName given q
      names (NameSet x n name child) body given is =
          let more = log_grows geometry left es (net_after m (Sent msg)) (told geometry m t (Sent msg)) (booked geometry left m t b (Sent msg)) msg.call in
          let all = more.1 ∙ (ap (λ (xs : List Own). xs ++ more.0) (sent_own m b msg (NameSet x n name child) msg.body msg.call body refl) ∙ together (b.own msg.call) (Sends msg.brick msg.no (NameSet x n name child) ∷ []) more.0) in
          each_there (SetsItsName given) (b.own msg.call) msg.brick msg.no (NameSet x n name child) more.0 (subst (EachSends (SetsItsName given)) all (own msg.call given is))
      names q body given is = tt

      fair : BodyIs IsWhole msg.body → BodyIs (MakesDirectory g) msg.body → (q : Request) → msg.body ≡ ToBrick q → IsFair (books geometry left (Sent msg ∷ es) m t b) g msg q
      fair whole made q body = record { whole = subst (BodyIs IsWhole) body whole; made = subst (BodyIs (MakesDirectory g)) body made; no_page = no_page q body; names = names q body }

      fair_sent : BodyIs IsWhole msg.body → BodyIs (MakesDirectory g) msg.body → AllFair (books geometry left (Sent msg ∷ es) m t b) g m → AllFair (books geometry left (Sent msg ∷ es) m t b) g (net_after m (Sent msg))
      fair_sent whole made all i x q is body = ⊎_elim
          (λ z. let same = some_is msg x z.1 in subst (λ (y : Message). IsFair (books geometry left (Sent msg ∷ es) m t b) g y q) same (fair whole made q (ap (λ (y : Message). y.body) same ∙ body)))
          (λ z. all i x q z.1 body)
          (put_some m.said msg.no (Some msg) i x is)

    -- All that is known where this is what the log still brings.
    pub record AtMoment (first : ℕ) (origins : ℕ → ℕ) (rest : List Entry) (m : Net) (vs : ℕ → View) (t : Story) (b : Books) : Type 0 where
      pub runs : IsRun geometry.n rest m
      pub plain : ArePlain rest
      pub kept : Kept geometry left none (books geometry left rest m t b)
      pub own : SetOwnNames (books geometry left rest m t b)
      pub whole : EachRequest IsWhole rest
      pub made : EachRequest (MakesDirectory g) rest
      pub reaches : Reaches geometry first origins m vs t b
      pub fair : AllFair (books geometry left rest m t b) g m

    module _ (first : ℕ) (origins : ℕ → ℕ) (new : (h : ℕ) → first ≤ h → origins h ≡ 0) where
      next_moment : (e : Entry) (rest : List Entry) (m : Net) (vs : ℕ → View) (t : Story) (b : Books) → AtMoment first origins (e ∷ rest) m vs t b → AtMoment first origins rest (net_after m e) (λ h. seen_after h m (vs h) e) (told geometry m t e) (booked geometry left m t b e)
      next_moment e rest m vs t b k =
          let p = plain_first e rest k.plain in
          let kept = kept_there geometry left none e rest m t b k.runs k.plain (k.reaches.reached g).known.numbers k.kept in
          record {
            runs = k.runs.1;
            plain = p.1;
            kept = k.kept;
            own = k.own;
            whole = k.whole.1;
            made = k.made.1;
            reaches = reaches_then geometry left none first origins new m vs t b e p.0 k.runs.0 kept k.reaches;
            fair = by e k.runs.0 kept k.own k.whole.0 k.made.0 k.fair;
          }
        where
          same : (x : Net) (last : Books) → x.said ≡ m.said → AllFair last g m → AllFair last g x
          same x last said all i y q is body = all i y q (sym (ap (λ (h : ℕ → Option Message). h i) said) ∙ is) body

          by : (e : Entry) → MayEnter geometry.n m e → EntryKept m b e → SetOwnNames (books geometry left (e ∷ rest) m t b) → EntryIs IsWhole e → EntryIs (MakesDirectory g) e → AllFair (books geometry left (e ∷ rest) m t b) g m → AllFair (books geometry left (e ∷ rest) m t b) g (net_after m e)
          by (Sent msg) may kept own whole made all = fair_sent m (vs g) t b (k.reaches.reached g).known msg rest may kept own whole made all
          by (Executed i version failed) may kept own whole made all = same (net_after m (Executed i version failed)) (books geometry left (Executed i version failed ∷ rest) m t b) (executed_same m (m.said i) version failed).0 all
          by (Heard i) may kept own whole made all = same (net_after m (Heard i)) (books geometry left (Heard i ∷ rest) m t b) (heard_same m (m.said i)).0 all
          by (Torn i count version) may kept own whole made all = same (net_after m (Torn i count version)) (books geometry left (Torn i count version ∷ rest) m t b) (torn_same m (m.said i) count version).0 all
          by e may kept own whole made all = all

      pub moment : (es rest : List Entry) (m : Net) (vs : ℕ → View) (t : Story) (b : Books) → AtMoment first origins (es ++ rest) m vs t b → AtMoment first origins rest (run es m) (λ h. view h es m (vs h)) (story geometry es m t) (books geometry left es m t b)
      moment [] rest m vs t b k = k
      moment (e ∷ es) rest m vs t b k = moment es rest (net_after m e) (λ h. seen_after h m (vs h) e) (told geometry m t e) (booked geometry left m t b e) (next_moment e (es ++ rest) m vs t b k)
