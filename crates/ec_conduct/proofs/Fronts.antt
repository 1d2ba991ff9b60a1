-- Histories in parts.
use Rattle.std.proofs.Common.{◌≡◌, ℕ, ◌+◌, refl, List, [], ◌∷◌, ◌++◌}
use Rattle.ec_wire.specs.declared.reply.Reply.{Reply}
use Rattle.ec_wire.specs.declared.request.Request.{Request}
use Rattle.ec_conduct.specs.Account.{Account, account_from, after, sent}
use Rattle.ec_conduct.specs.Conduct.{KeepsFrom, MaySend}
use Rattle.ec_conduct.specs.Examples.{round}
use Rattle.ec_conduct.specs.Own.{Own}

pub front_from : (c : Account) (es fs : List Own) → KeepsFrom c (es ++ fs) → KeepsFrom c es
front_from c [] fs k = tt
front_from c (e ∷ es) fs k = (k.0, front_from (after c e) es fs k.1)

pub rest_from : (c : Account) (es fs : List Own) → KeepsFrom c (es ++ fs) → KeepsFrom (account_from c es) fs
rest_from c [] fs k = k
rest_from c (e ∷ es) fs k = rest_from (after c e) es fs k.1

pub join_from : (c : Account) (es fs : List Own) → KeepsFrom c es → KeepsFrom (account_from c es) fs → KeepsFrom c (es ++ fs)
join_from c [] fs k l = l
join_from c (e ∷ es) fs k l = (k.0, join_from (after c e) es fs k.1 l)

pub account_append : (c : Account) (es fs : List Own) → account_from c (es ++ fs) ≡ account_from (account_from c es) fs
account_append c [] fs = refl
account_append c (e ∷ es) fs = account_append (after c e) es fs

pub round_keeps : (c : Account) (n : ℕ) (to : ℕ → Request) (reply : Reply) → MaySend c 0 (to 0) → MaySend (sent c 0 n (to 0)) 1 (to 1) → MaySend (sent (sent c 0 n (to 0)) 1 (n + 1) (to 1)) 2 (to 2) → KeepsFrom c (round n to reply)
round_keeps c n to reply a b d = (a, (b, (d, (tt, (tt, (tt, tt))))))
