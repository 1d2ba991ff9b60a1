-- Plans of a file along a log.
use Rattle.ec_law_files.specs.Filing.{FilingLaws}
use Rattle.ec_law_files.proofs.Filing.{changed, coded, covered, plans_first}
use Rattle.ec_law_files.proofs.Having.{have_after}
use Rattle.ec_law_files.proofs.Choosing.{begun, chosen, plan_stays, took_now, took_stays}

pub filing_laws : FilingLaws
filing_laws = record {
  first = λ geometry makings g m v b f msg q given next_no may kept known shown own have body made on none. plans_first geometry makings g m v b f msg q given next_no may kept known shown own have body made on none;
  covered = λ geometry makings g m v b f known have. covered geometry makings g m v b f known have;
  coded = λ geometry rows makings g m v b f e known have chunks are_rows. coded geometry makings g m v b f known have rows are_rows chunks e;
  changed = λ geometry makings g m v b f known have. changed geometry makings g m v b f known have;
  kept = λ geometry left none makings k' coder plans n k g m v t b f e may kept known shown own chosen have. have_after geometry left none makings k' coder plans n k g m v t b f known shown have e may kept own chosen;
  begun = begun;
  chosen = λ makings g v b f e plans. chosen makings g v b f plans e;
  plan_stays = λ makings g v b f e plans a p. plan_stays makings g v b f plans e a p;
  took_stays = λ makings g v b f e plans a lt. took_stays makings g v b f plans e a lt;
  took = λ makings g v b f msg plans given head made group zero. took_now makings g v b f plans msg given head made group zero;
}
