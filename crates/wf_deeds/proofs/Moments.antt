-- A moment at which an engine stands for its deeds.
use Rattle.std.specs.Prelude.{◌++◌, None}
use Rattle.std.proofs.Common.{refl, subst}
use Rattle.wf_deeds.specs.Clauses.{StandsIsKept}
use Rattle.wf_deeds.specs.Kept.{Kept}

pub stands_is_kept : StandsIsKept
stands_is_kept L O command handed m n most before added D E s number own silent few = record {
  added = added;
  records = refl;
  own = own;
  history = (s.leads.standing, s.leads.history);
  kept = subst (λ k. Kept L O (record { payloads = before ++ added; number = k; deeds = D ++ E; command = command; end = None; handed = handed })) number s.kept;
  silent = silent;
  polled = few;
}
