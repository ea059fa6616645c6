-- `requests::request_fits` meets its contract: its tests are those of a request's limits.
-- Assumes nothing.
use Rattle.requests.specs.Laws.{fits_tests}
use Rattle.requests.specs.Asked.{request_of}
use Rattle.requests.proofs.request_fits.Goals as goal

pub returns : goal.returns
returns c =
    let a = c.args in
    rw c.of_roles-event.ensures (fits_tests a.roles (request_of a.r))
