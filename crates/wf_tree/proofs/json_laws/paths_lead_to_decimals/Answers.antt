use Rattle.wf_tree.proofs.Leads.{leads}
use Rattle.wf_tree.proofs.json_laws.paths_lead_to_decimals.Goals as goal

pub returns : goal.returns
returns c = leads
