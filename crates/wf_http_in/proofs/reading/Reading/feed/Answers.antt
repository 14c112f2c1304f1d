use Rattle.wf_http_in.proofs.Coming.{decided_stays}
use Rattle.wf_http_in.proofs.reading.Reading.feed.Goals as goal

pub returns-in-Whole : goal.returns-in-Whole
returns-in-Whole c = λ heard close h. record {
  stage = decided_stays _ _ _ _ heard c.args.piece.now c.in-Whole.is h.stage;
  close_is = h.close_is;
  little = h.little;
}

pub returns-in-Whole-2 : goal.returns-in-Whole-2
returns-in-Whole-2 c = λ heard close h. record {
  stage = decided_stays _ _ _ _ heard c.args.piece.now c.in-Whole.is h.stage;
  close_is = h.close_is;
  little = h.little;
}

pub returns-in-Whole-3 : goal.returns-in-Whole-3
returns-in-Whole-3 c = λ heard close h. record {
  stage = decided_stays _ _ _ _ heard c.args.piece.now c.in-Whole.is h.stage;
  close_is = h.close_is;
  little = h.little;
}
