-- `report::page` meets its contract: the length of the space decides.
-- Assumes nothing.
use Rattle.report.proofs.Paging.{page_written}
use Rattle.report.proofs.page.Goals as goal

pub returns-clause-out : goal.returns-clause-out
returns-clause-out c = page_written _ _ c.if-out-lt-PAGE_LIMIT.false _ _ c.write.ensures
