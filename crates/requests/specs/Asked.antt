-- A request as the code holds it, and as it is to the definitions.
-- Assumes nothing.
use Rattle.tables.specs.Asked as lent
use Rattle.requests.specs.declared.Request.{Request}

abbrev pub request_of : Request → lent.Request
request_of r = record { event = r.event; priority = r.priority; delay = r.delay }
