-- Each act keeps each clause.
use Rattle.ec_law_ballots.specs.Act.Act.{Grant, Free, Share, Unshare, Moment, See, Keep, Carry, Choose, Choose_kept, Pre, Sink_pre, Post, Sink_post, Clear, Heal_grant, Heal_free, Mark, Unmark, Maker_grant, Maker_free, Make, Made, Unmake, Stop, Replace}
use Rattle.ec_law_ballots.specs.Laws.{ClausesKept, ClauseLaws}
use Rattle.ec_law_ballots.proofs.Grants.{local-grant, local-free, local-share, local-unshare, local-keep, local-carry}
use Rattle.ec_law_ballots.proofs.Moments.{local-moment, local-see}
use Rattle.ec_law_ballots.proofs.Ballots.{local-choose, local-choose_kept}
use Rattle.ec_law_ballots.proofs.Writes.{local-pre, local-post, local-clear}
use Rattle.ec_law_ballots.proofs.Sinks.{local-sink_pre, local-sink_post}
use Rattle.ec_law_ballots.proofs.Heals.{local-heal_grant, local-heal_free, local-mark, local-unmark}
use Rattle.ec_law_ballots.proofs.Making.{local-maker_grant, local-maker_free, local-make, local-made, local-unmake, local-stop, local-replace}

kept : ClausesKept
kept n k s (Grant t d) b may facts l = local-grant n k s b t d may facts l
kept n k s (Free d) b may facts l = local-free n k s b d may l
kept n k s (Share t d) b may facts l = local-share n k s b t d may l
kept n k s (Unshare t d) b may facts l = local-unshare n k s b t d may l
kept n k s (Moment t) b may facts l = local-moment n k s b t may facts l
kept n k s (See t d) b may facts l = local-see n k s b t d may l
kept n k s (Keep t u) b may facts l = local-keep n k s b t u may l
kept n k s (Carry u t d) b may facts l = local-carry n k s b u t d may facts l
kept n k s (Choose t p) b may facts l = local-choose n k s b t p may facts l
kept n k s (Choose_kept t u p) b may facts l = local-choose_kept n k s b t u p may facts l
kept n k s (Pre t d) b may facts l = local-pre n k s b t d may facts l
kept n k s (Sink_pre t d) b may facts l = local-sink_pre n k s b t d may l
kept n k s (Post t d) b may facts l = local-post n k s b t d may facts.0 facts.1 l
kept n k s (Sink_post t d) b may facts l = local-sink_post n k s b t d may facts.0 facts.1 l
kept n k s (Clear t d) b may facts l = local-clear n k s b t d may l
kept n k s (Heal_grant h d) b may facts l = local-heal_grant n k s b h d may l
kept n k s (Heal_free d) b may facts l = local-heal_free n k s b d may l
kept n k s (Mark t d) b may facts l = local-mark n k s b t d may facts.0 facts.1 facts.2 facts.3 l
kept n k s (Unmark t d) b may facts l = local-unmark n k s b t d may facts.0 facts.1 facts.2 l
kept n k s (Maker_grant d) b may facts l = local-maker_grant n k s b d may l
kept n k s (Maker_free d) b may facts l = local-maker_free n k s b d may l
kept n k s (Make d) b may facts l = local-make n k s b d may l
kept n k s (Made d) b may facts l = local-made n k s b d may l
kept n k s (Unmake d) b may facts l = local-unmake n k s b d may l
kept n k s (Stop d) b may facts l = local-stop n k s b d may l
kept n k s (Replace d) b may facts l = local-replace n k s b d may l

pub laws : ClauseLaws
laws = record { kept = kept }
