-- A call sends its requests one after another.
use Rattle.std.proofs.Common.{◌≡◌, ℕ, ◌+◌, ◌<◌, false, Option, Some, List, [], ◌∷◌, ◌++◌, length, drop, get_or, refl, sym, ◌∙◌, ap, subst, append_assoc, append-nil}
use Rattle.std.specs.Prelude.{Result, Ok, Err, OnErr, OnOk}
use Rattle.std.proofs.lemmas.List.{drop_more}
use Rattle.ec_cluster.specs.Sound.{IsSound}
use Rattle.ec_cluster.specs.Steps.{Advances as ClusterAdvances, IsOfClient}
use Rattle.ec_cluster.specs.Views.{next_of}
use Rattle.ec_cluster.specs.declared.cluster.Cluster.{Cluster}
use Rattle.ec_conduct.specs.Conduct.{Keeps}
use Rattle.ec_conduct.specs.Given.{Given}
use Rattle.ec_conduct.specs.Own.{Own}
use Rattle.ec_conduct.specs.Table.{Send}
use Rattle.ec_txn.specs.declared.ctx.Ctx.{Ctx}
use Rattle.ec_wire.specs.declared.answer.Answer.{Answer}
use Rattle.ec_wire.specs.declared.entry.Entry.{Entry}
use Rattle.ec_wire.specs.declared.entry.Entry.TheVariants.{Sent}
use Rattle.ec_wire.specs.declared.request.Request.{Request}
use Rattle.ec_clients.specs.Calls.{request_message}
use Rattle.ec_clients.specs.Come.{Come}
use Rattle.ec_clients.specs.Frames.{released_by, with_released}
use Rattle.ec_clients.specs.Going.{Going, SendsRest, sent_entries}
use Rattle.ec_clients.specs.Steps.{AreOfCourse, Breaks, Goes}
use Rattle.ec_clients.specs.Views.{is_released}
use Rattle.ec_clients.specs.declared.clients.Clients.{Clients}
use Rattle.ec_clients.proofs.Following.{front_follow, requests_follow, then_follow}
use Rattle.ec_clients.proofs.Goings.{breaks_now, goes_off, goes_on, sends_one}

module _ {C : Type 0} (stands : Ctx → Given → C → List Own → Type 0) (by_table : Ctx → Given → List Own → Type 0) where
  -- one request is sent
  pub one_sent : (keeps : (x : Ctx) (given : Given) (call : C) (es : List Own) → stands x given call es → Keeps given es) (s t : Cluster) (c r : Clients C) (a j b : ℕ) (q : Request) (rest : List Send) → r ≡ record c { released = r.released } → ((n : ℕ) → released_by q ≡ Some n → is_released c n ≡ false) → ((i : ℕ) → is_released r i ≡ with_released (is_released c) (released_by q) i) → IsSound s → next_of t ≡ next_of s + 1 → ClusterAdvances (IsOfClient a j) s t (Sent (request_message (next_of s) a j b q) ∷ []) → SendsRest stands by_table s t c r a j ((b, q) ∷ rest) rest
  one_sent keeps s t c r a j b q rest same first released sound next adv = record {
    entries = Sent (request_message (next_of s) a j b q) ∷ [];
    exact = λ i. Sent (request_message (next_of s) a j b q) ∷ sent_entries a j (next i) rest;
    same = same;
    sound = adv.sound;
    size = adv.size;
    goes = λ call answer. sends_one stands by_table keeps s t c a j b q r same first released sound next adv call rest answer;
  }

  pub none_sent : (s : Cluster) (c : Clients C) (a j : ℕ) (sends : List Send) → IsSound s → SendsRest stands by_table s s c c a j sends sends
  none_sent s c a j sends sound = record {
    entries = [];
    exact = refl;
    same = refl;
    sound = sound;
    size = refl;
    goes = λ call answer. record { log = sym (append-nil _); size = refl; sound = sound; leads = λ p h. h; runs = λ records p h m. (tt, m) };
  }

  pub then_sent : (s t u : Cluster) (c d r : Clients C) (a j : ℕ) (xs ys zs : List Send) → SendsRest stands by_table s t c d a j xs ys → SendsRest stands by_table t u d r a j ys zs → SendsRest stands by_table s u c r a j xs zs
  then_sent s t u c d r a j xs ys zs f g = record {
    entries = f.entries ++ g.entries;
    exact = append_assoc f.entries g.entries (sent_entries a j (next_of u) zs) ∙ (ap (λ (es : List Entry). f.entries ++ es) g.exact ∙ f.exact);
    sound = g.sound;
    size = g.size ∙ f.size;
    same = g.same ∙ (λ i. record (f.same i) { released = r.released });
    goes = λ call answer. goes_on c.options.geometry (Going stands by_table s c a j call xs answer) (Going stands by_table t d a j call ys answer) (Going stands by_table u r a j call zs answer) s t u f.entries g.entries (f.goes call answer)
        (subst (λ (z : Clients C). Goes z.options.geometry (Going stands by_table t d a j call ys answer) (Going stands by_table u r a j call zs answer) t u g.entries) f.same (g.goes call answer));
  }

  pub stops_sent : (s t u : Cluster) (c d : Clients C) (a j : ℕ) (xs ys : List Send) (call : C) (answer : Option Answer) → SendsRest stands by_table s t c d a j xs ys → Breaks d.options.geometry AreOfCourse (Going stands by_table t d a j call ys answer) t u → Breaks c.options.geometry AreOfCourse (Going stands by_table s c a j call xs answer) s u
  stops_sent s t u c d a j xs ys call answer f g = goes_off c.options.geometry (Going stands by_table s c a j call xs answer) (Going stands by_table t d a j call ys answer) s t u f.entries AreOfCourse AreOfCourse (λ fs k. then_follow f.entries fs (front_follow f.entries (sent_entries a j (next_of t) ys) (sent_entries a j (next_of s) xs) f.exact (requests_follow a j (next_of s) xs)) k) (f.goes call answer) (subst (λ (z : Clients C). Breaks z.options.geometry AreOfCourse (Going stands by_table t d a j call ys answer) t u) f.same g)

-- the request at place i
pub rest_is : (xs : List Send) (i : ℕ) (x d : Send) → i < length xs → x ≡ get_or xs i d → drop i xs ≡ x ∷ drop (i + 1) xs
rest_is xs i x d lt e = drop_more xs i d lt ∙ ap (λ (y : Send). y ∷ drop (i + 1) xs) (sym e)

pub on_err : {A E : Type 0} (r : Result A E) (P : Type 0) → P → OnErr r P
on_err (Ok a) P p = tt
on_err (Err e) P p = p

pub ok_map : {A E : Type 0} (r : Result A E) (P Q : Type 0) → (P → Q) → OnOk r P → OnOk r Q
ok_map (Ok a) P Q f p = f p
ok_map (Err e) P Q f p = tt

pub ok_map2 : {A E : Type 0} (r : Result A E) (P Q R : Type 0) → (P → Q → R) → OnOk r P → OnOk r Q → OnOk r R
ok_map2 (Ok a) P Q R f p q = f p q
ok_map2 (Err e) P Q R f p q = tt

pub err_map : {A E : Type 0} (r : Result A E) (P Q : Type 0) → (P → Q) → OnErr r P → OnErr r Q
err_map (Ok a) P Q f p = tt
err_map (Err e) P Q f p = f p

module _ {C : Type 0} (stands : Ctx → Given → C → List Own → Type 0) (by_table : Ctx → Given → List Own → Type 0) where
  -- the loop over the requests
  pub next_sent : (s t u : Cluster) (c d r : Clients C) (a j : ℕ) (sends : List Send) (i : ℕ) (x e : Send) → i < length sends → x ≡ get_or sends i e → SendsRest stands by_table s t c d a j sends (drop i sends) → ((rest : List Send) → SendsRest stands by_table t u d r a j (x ∷ rest) rest) → SendsRest stands by_table s u c r a j sends (drop (i + 1) sends)
  next_sent s t u c d r a j sends i x e lt is f g = then_sent stands by_table s t u c d r a j sends (drop i sends) (drop (i + 1) sends) f (subst (λ (xs : List Send). SendsRest stands by_table t u d r a j xs (drop (i + 1) sends)) (sym (rest_is sends i x e lt is)) (g (drop (i + 1) sends)))

  pub next_stops : (s t u : Cluster) (c d : Clients C) (a j : ℕ) (sends : List Send) (i : ℕ) (x e : Send) → i < length sends → x ≡ get_or sends i e → SendsRest stands by_table s t c d a j sends (drop i sends) → ((call : C) (rest : List Send) (answer : Option Answer) → Breaks d.options.geometry AreOfCourse (Going stands by_table t d a j call (x ∷ rest) answer) t u) → (call : C) (answer : Option Answer) → Breaks c.options.geometry AreOfCourse (Going stands by_table s c a j call sends answer) s u
  next_stops s t u c d a j sends i x e lt is f g call answer = stops_sent stands by_table s t u c d a j sends (drop i sends) call answer f (subst (λ (xs : List Send). Breaks d.options.geometry AreOfCourse (Going stands by_table t d a j call xs answer) t u) (sym (rest_is sends i x e lt is)) (g call (drop (i + 1) sends) answer))

  pub stops_here : (s t : Cluster) (c d : Clients C) (a j : ℕ) (sends rest : List Send) → SendsRest stands by_table s t c d a j sends rest → (call : C) (answer : Option Answer) → Breaks c.options.geometry AreOfCourse (Going stands by_table s c a j call sends answer) s t
  stops_here s t c d a j sends rest f call answer = stops_sent stands by_table s t t c d a j sends rest call answer f (breaks_now d.options.geometry AreOfCourse refl (Going stands by_table t d a j call rest answer) t t refl)

  -- all are sent, and then something else is done
  pub all_then : (s t u : Cluster) (c d : Clients C) (a j : ℕ) (sends : List Send) (call : C) (answer : Option Answer) (After : Come → Type 0) (fs : List Entry) → SendsRest stands by_table s t c d a j sends [] → Goes d.options.geometry (Going stands by_table t d a j call [] answer) After t u fs → Goes c.options.geometry (Going stands by_table s c a j call sends answer) After s u (sent_entries a j (next_of s) sends ++ fs)
  all_then s t u c d a j sends call answer After fs f g =
      let e : f.entries ≡ sent_entries a j (next_of s) sends = sym (append-nil f.entries) ∙ f.exact in
      subst (λ (es : List Entry). Goes c.options.geometry (Going stands by_table s c a j call sends answer) After s u (es ++ fs)) e
      (goes_on c.options.geometry (Going stands by_table s c a j call sends answer) (Going stands by_table t d a j call [] answer) After s t u f.entries fs (f.goes call answer) (subst (λ (z : Clients C). Goes z.options.geometry (Going stands by_table t d a j call [] answer) After t u fs) f.same g))
