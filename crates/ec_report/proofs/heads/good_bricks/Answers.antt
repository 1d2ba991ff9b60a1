use Rattle.std.proofs.Common.{◌-◌, arith}
use Rattle.ec_report.proofs.Answering.{given_past, good_found, good_none, heads_same}
use Rattle.ec_report.proofs.heads.good_bricks.Goals as goal

pub group-requires : goal.group-requires
group-requires c = given_past c.answers_of-answers.result c.args.heads.now c.args.geometry.now.n c.requires.many c.answers_of-answers.ensures

pub returns-in-Group : goal.returns-in-Group
returns-in-Group c = good_found (c.args.geometry.now.n - c.args.geometry.now.r) c.answers_of-answers.result c.args.heads.now c.in-Group.g (heads_same c.answers_of-answers.result c.args.heads.now (omega (arith, c.requires.many)) c.answers_of-answers.ensures) c.in-Group.ensures.grouped

pub returns-in-Gone : goal.returns-in-Gone
returns-in-Gone c = good_none (c.args.geometry.now.n - c.args.geometry.now.r) c.empty.result c.answers_of-answers.result c.args.heads.now (heads_same c.answers_of-answers.result c.args.heads.now (omega (arith, c.requires.many)) c.answers_of-answers.ensures) c.empty.ensures.members c.in-Gone.ensures.unique

pub returns-in-Fewer : goal.returns-in-Fewer
returns-in-Fewer c = good_none (c.args.geometry.now.n - c.args.geometry.now.r) c.empty-in-Fewer.result c.answers_of-answers.result c.args.heads.now (heads_same c.answers_of-answers.result c.args.heads.now (omega (arith, c.requires.many)) c.answers_of-answers.ensures) c.empty-in-Fewer.ensures.members c.in-Fewer.ensures.unique
