use Rattle.wf_http_serve.proofs.Coming.{decided_stays}
use Rattle.wf_http_serve.proofs.visit.Visit.feed.Goals as goal

pub returns-in-Asked : goal.returns-in-Asked
returns-in-Asked c = λ heard close h. record {
  stage = decided_stays _ _ _ _ heard c.args.piece.now c.in-Asked.is h.stage;
  close_is = h.close_is;
  little = h.little;
}

pub returns-in-Asked-2 : goal.returns-in-Asked-2
returns-in-Asked-2 c = λ heard close h. record {
  stage = decided_stays _ _ _ _ heard c.args.piece.now c.in-Asked.is h.stage;
  close_is = h.close_is;
  little = h.little;
}

pub returns-in-Asked-3 : goal.returns-in-Asked-3
returns-in-Asked-3 c = λ heard close h. record {
  stage = decided_stays _ _ _ _ heard c.args.piece.now c.in-Asked.is h.stage;
  close_is = h.close_is;
  little = h.little;
}
